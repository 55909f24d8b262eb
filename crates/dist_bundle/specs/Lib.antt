pub mod Reach
pub mod Bundle
pub mod Search
