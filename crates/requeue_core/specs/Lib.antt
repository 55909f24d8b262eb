pub mod Losses
pub mod Fates
