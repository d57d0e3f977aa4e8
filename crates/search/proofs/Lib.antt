pub mod Cases
pub mod Laws
pub mod Demands
pub mod WantedGap
