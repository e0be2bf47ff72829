pub mod Bytes
pub mod Layout
pub mod Encoding
pub mod Decoding
