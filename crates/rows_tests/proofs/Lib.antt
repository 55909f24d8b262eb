mod Neighbours
mod Links
