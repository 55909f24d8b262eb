pub mod Reading
pub mod ScopeMoves
pub mod ScopingLeft
pub mod Asked
