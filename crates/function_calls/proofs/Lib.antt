mod Applied
mod Filling
mod Arguments
