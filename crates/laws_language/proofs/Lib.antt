mod Limits
pub mod Modes
pub mod Stored
