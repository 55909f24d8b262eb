pub mod Shift
pub mod Carried
