mod Telling
pub mod Shown
mod Agreeing
mod Asked
mod Trying
pub mod Falling
pub mod Questions
