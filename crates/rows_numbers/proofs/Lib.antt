mod Judged
mod Common
mod Kept
