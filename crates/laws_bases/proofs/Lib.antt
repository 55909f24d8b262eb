mod Kin
mod Along
pub mod Stay
