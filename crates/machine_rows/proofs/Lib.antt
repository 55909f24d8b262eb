pub mod Steps
pub mod Scopes
pub mod Falling
pub mod Trials
pub mod Outward
