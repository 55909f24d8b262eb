mod Stacks
pub mod Shown
mod Choosing
mod Turns
