pub mod Chains
pub mod Negations
pub mod Tops
pub mod Frames
pub mod Innermost
pub mod Follows
