pub mod Exact
pub mod Products
pub mod Progressions
pub mod Totals
