mod Bounds
mod Frames
mod Numbers
mod Shifts
mod Quiet
mod Named
