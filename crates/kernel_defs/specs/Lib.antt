pub mod Targets
pub mod Definition
pub mod Chains
pub mod Table
pub mod Locals
pub mod Saved
pub mod Defs
pub mod Assigned
