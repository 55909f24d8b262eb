pub mod Shifting
pub mod Kept
pub mod Unseen
pub mod Carried
