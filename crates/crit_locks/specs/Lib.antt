pub mod Holdings
pub mod Agreeing
