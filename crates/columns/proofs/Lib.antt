pub mod Sides
pub mod Scans
pub mod Pairs
