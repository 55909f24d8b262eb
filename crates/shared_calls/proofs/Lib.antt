pub mod Sending
pub mod Found
pub mod Changed
