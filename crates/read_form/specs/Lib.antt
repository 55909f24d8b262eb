pub mod Pieces
pub mod Kept
pub mod Gone
pub mod Answers
