mod MethodOptions
mod Printing
mod Combining
mod Shaping
mod Looping
mod Beginning
mod Moving
