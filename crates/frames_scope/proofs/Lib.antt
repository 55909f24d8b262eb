pub mod Readings
pub mod Machines
pub mod Questions
pub mod Withs
