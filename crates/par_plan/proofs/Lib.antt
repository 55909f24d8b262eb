pub mod Chunks
pub mod Between
