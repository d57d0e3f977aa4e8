-- The laws of the definitions of `specs/`.
pub mod Bytes
pub mod Chosen
pub mod Hundred
pub mod Refusals
pub mod BoardBytes
pub mod Alike
pub mod Answers
