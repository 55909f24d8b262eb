pub mod Attributes
pub mod Outward
pub mod Setup
pub mod Steps
