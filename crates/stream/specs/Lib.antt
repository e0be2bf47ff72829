pub mod Held
pub mod Replies
pub mod Advancing
pub mod Streams
pub mod Desks
pub mod Printing
pub mod Pieces
