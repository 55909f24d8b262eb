mod Ranges
mod Rounding
mod Common
mod Growth
mod Turns
mod Progressing
