pub mod Hundred
pub mod Sheets
pub mod ByKey
pub mod Bytes
pub mod Exports
pub mod Engine
