pub mod Finds
pub mod Cut
pub mod Widths
