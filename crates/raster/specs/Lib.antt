pub mod Frame
pub mod Refresh
pub mod Set
