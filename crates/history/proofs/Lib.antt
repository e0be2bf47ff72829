pub mod Every
pub mod Slots
pub mod Balanced
pub mod Windings
pub mod Alone
pub mod Limits
pub mod Held
pub mod Fresh
