pub mod Printing
pub mod Placing
pub mod Options
pub mod Loops
pub mod OutwardLeft
pub mod Shapes
pub mod Beginnings
pub mod LoopShapes
