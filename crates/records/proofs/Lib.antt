pub mod Reading
pub mod Fronts
pub mod RoundTrip
pub mod Unique
pub mod Sizes
pub mod Longer
