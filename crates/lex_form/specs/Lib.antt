pub mod Scans
pub mod Lexes
pub mod Shapes
pub mod Spans
