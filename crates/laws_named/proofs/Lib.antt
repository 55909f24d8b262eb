pub mod Named
pub mod Reached
pub mod Quiet
