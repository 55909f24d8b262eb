pub mod Asking
pub mod StepResults
pub mod RowsLeft
pub mod Machines
