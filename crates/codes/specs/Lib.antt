pub mod Codes
pub mod Kinds
pub mod Counts
pub mod Batches
