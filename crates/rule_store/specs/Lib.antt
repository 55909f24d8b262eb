pub mod Marks
pub mod Keys
pub mod Code
pub mod Places
pub mod Held
