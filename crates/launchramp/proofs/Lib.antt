pub mod Closing
pub mod Keeping
pub mod Whole
