pub mod View
pub mod Access
pub mod Sent
