pub mod Runs
pub mod Writing
pub mod Room
