mod Joins
mod Delivered
mod Dropping
mod Crew
mod Keeping
mod Counting
mod Sections
mod Lost
