mod Numbered
mod Picked
mod Cuts
mod Columns
mod Ranges
