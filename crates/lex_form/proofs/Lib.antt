pub mod Lexing
pub mod TokenShapes
pub mod CellLemmas
pub mod CellSteps
