-- How the engine takes a sheet's bytes apart and chooses between two sheets: what the contracts of inner functions speak of. No promised definition uses these.
pub mod Taken
pub mod Chosen
