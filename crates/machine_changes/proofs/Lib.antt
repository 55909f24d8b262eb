mod Going
mod Flags
mod Guarding
mod Renewals
mod Attaching
mod Unsetting
mod Larger
pub mod Smaller
mod Sides
mod Forms
