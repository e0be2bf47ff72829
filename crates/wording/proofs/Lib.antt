pub mod Laying
pub mod Decimals
pub mod Meaning
pub mod Written
pub mod Unique
