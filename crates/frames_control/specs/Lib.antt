pub mod Countdowns
pub mod ControlMoves
pub mod Choices
pub mod TurnForms
pub mod ControlLeft
