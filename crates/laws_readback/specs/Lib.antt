pub mod Showable
pub mod Laws
