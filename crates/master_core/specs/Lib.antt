pub mod Joined
pub mod Posting
pub mod Waits
pub mod Book
pub mod Postings
pub mod Losing
