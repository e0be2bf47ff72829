pub mod Axis
pub mod Both
