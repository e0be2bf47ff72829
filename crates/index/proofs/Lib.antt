pub mod Order
pub mod Growing
pub mod Bits
pub mod Marking
pub mod Bounding
pub mod Listing
