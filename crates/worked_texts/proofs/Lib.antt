mod Sample
mod Printing
mod Tokens
mod Leaves
mod Readings
mod Nesting
