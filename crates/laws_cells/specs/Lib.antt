pub mod Cells
pub mod Rest
