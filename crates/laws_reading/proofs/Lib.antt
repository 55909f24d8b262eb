pub mod Carries
pub mod Limits
pub mod Cuts
pub mod Sizes
