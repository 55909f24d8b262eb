pub mod Named
pub mod Unlisted
pub mod Rows
pub mod Values
pub mod Items
pub mod Shown
