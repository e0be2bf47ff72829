pub mod Nearest
pub mod Millimetres
