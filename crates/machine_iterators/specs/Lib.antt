pub mod IterationForms
pub mod PartsAsked
pub mod IterationLeft
pub mod Found
pub mod IteratorShapes
