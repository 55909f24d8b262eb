pub mod Laws
pub mod Views
pub mod Runs
pub mod Masters
pub mod Symbols
