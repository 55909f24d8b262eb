pub mod Runs
pub mod Applies
