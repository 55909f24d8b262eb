pub mod Marked
pub mod Counts
pub mod Places
