pub mod Listed
pub mod Scripts
