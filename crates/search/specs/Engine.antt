-- How the search holds a network, a partial timetable and a walk: what the contracts of inner functions speak of. No promised definition uses these.
pub mod CapScan
pub mod Layout
pub mod Representation
