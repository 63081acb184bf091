pub mod Chip
pub mod Accept
pub mod Set
