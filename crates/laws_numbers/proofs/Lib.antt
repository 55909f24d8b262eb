pub mod Sizes
pub mod Calm
pub mod Thrift
pub mod Paying
pub mod Paid
