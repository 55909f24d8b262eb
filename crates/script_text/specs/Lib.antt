pub mod Bytes
pub mod Cells
pub mod Spelling
pub mod Full
pub mod FullForm
pub mod Reader
pub mod Laws
pub mod FullNames
