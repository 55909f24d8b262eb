pub mod Fated
pub mod Settling
pub mod Losing
pub mod Living
