pub mod Closest
pub mod Doubles
pub mod Exactly
pub mod Vectors
