pub mod Bounds
pub mod Threads
pub mod Orders
pub mod Wrappers
