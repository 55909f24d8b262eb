pub mod Tables
pub mod Courses
mod Apart
mod Counted
mod Grows
mod Kept
mod Replayed
mod Equal
mod Forced
pub mod Unique
mod Steps
mod Attempts
mod Views
pub mod Closed
mod Cutting
mod Tidy
mod Insides
mod StandIn
mod Quieted
pub mod Seen
mod Composed
mod Emptied
pub mod Waiting
pub mod Masters
mod Doers
mod Pins
mod Finds
mod Symbols
