mod Table
pub mod Reader
pub mod Read
