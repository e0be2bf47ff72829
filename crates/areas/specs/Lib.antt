pub mod Areas
pub mod Lengths
pub mod Walk
