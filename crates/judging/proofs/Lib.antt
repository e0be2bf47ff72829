pub mod Sums
pub mod Judged
pub mod Free
pub mod Matched
pub mod Told
