pub mod Texts
pub mod Longest
pub mod Spelled
pub mod Laws
