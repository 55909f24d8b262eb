pub mod Joins
pub mod Patterns
pub mod Bounds
pub mod Heads
pub mod Places
