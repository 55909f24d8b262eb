pub mod Beyond
pub mod View
pub mod Falls
pub mod Judged
