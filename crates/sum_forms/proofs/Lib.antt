mod Shapes
mod Order
mod Gathers
mod Rests
mod Judged
mod Lists
mod Factors
mod Addends
