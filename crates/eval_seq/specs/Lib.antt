pub mod Outward
pub mod Setup
pub mod Ends
pub mod Walks
pub mod Sequence
pub mod Driven
pub mod Told
