pub mod Splits
pub mod Planned
pub mod Gathering
pub mod Taken
