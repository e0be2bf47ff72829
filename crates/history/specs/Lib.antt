pub mod Histories
pub mod Adding
pub mod Limits
pub mod Turns
