pub mod Words
pub mod Held
pub mod States
pub mod Machine
pub mod Steps
pub mod Levels
