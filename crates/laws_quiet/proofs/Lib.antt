pub mod Installed
pub mod Quieted
pub mod Batched
pub mod Delivered
