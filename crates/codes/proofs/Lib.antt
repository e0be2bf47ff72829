pub mod Places
pub mod Batched
pub mod Unique
