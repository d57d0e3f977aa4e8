pub mod Caps
pub mod Walk
pub mod Search
pub mod Wanted
pub mod Engine
