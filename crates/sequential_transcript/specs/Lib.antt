pub mod Unbuilt
pub mod Transcript
pub mod Laws
