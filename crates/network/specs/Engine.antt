-- How the engine holds a network and goes over it: what the contracts of inner functions speak of. No promised definition uses these.
pub mod Stored
pub mod Commands
pub mod Read
pub mod Rated
pub mod Scan
pub mod Placed
pub mod Due
