pub mod Chains
pub mod Differ
