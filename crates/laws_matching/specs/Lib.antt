pub mod Bounds
pub mod Heads
pub mod Places
