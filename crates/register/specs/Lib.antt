pub mod Sorting
pub mod Standing
pub mod Seen
pub mod Placing
pub mod Spots
pub mod Founding
pub mod Calls
