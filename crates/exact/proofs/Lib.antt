pub mod Parts
pub mod Signs
pub mod Bounds
pub mod Fours
pub mod Sums
pub mod Poly
