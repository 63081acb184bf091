pub mod Pending
pub mod Rows
pub mod Fine
pub mod Set
