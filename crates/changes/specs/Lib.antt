pub mod Answers
pub mod Afterwards
pub mod Performing
pub mod Calls
