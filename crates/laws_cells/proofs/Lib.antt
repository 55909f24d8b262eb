mod Forms
mod Inside
pub mod Cells
pub mod Waits
