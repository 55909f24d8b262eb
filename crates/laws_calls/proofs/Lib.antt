pub mod Programs
pub mod Runs
mod ControlRows
pub mod ScopeRows
mod ChangeRows
mod ModeRows
pub mod Passes
pub mod Parts
mod Examples
