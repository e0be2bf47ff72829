pub mod Written
pub mod Forms
pub mod Parts
pub mod Entering
pub mod Closing
pub mod Leaving
pub mod Additions
