pub mod Forms
pub mod Search
pub mod Goals
pub mod Origin
pub mod Heads
pub mod Code
