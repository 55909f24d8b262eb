pub mod Holds
pub mod Counted
pub mod Under
pub mod Flat
pub mod Fronts
pub mod Spans
pub mod Repeats
