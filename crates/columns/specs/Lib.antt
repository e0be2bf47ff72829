pub mod Walk
pub mod Missing
pub mod Rows
