pub mod Splitting
pub mod Merging
pub mod Judging
