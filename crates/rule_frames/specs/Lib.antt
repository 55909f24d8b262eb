pub mod Questions
pub mod Reading
pub mod Rules
pub mod Told
pub mod Trials
pub mod Worst
