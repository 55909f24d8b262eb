pub mod Left
pub mod Entered
pub mod Holders
pub mod Frees
