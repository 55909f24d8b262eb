pub mod Shown
pub mod Walking
pub mod Asking
pub mod Shaping
pub mod Numbering
pub mod Beginning
pub mod Stepping
