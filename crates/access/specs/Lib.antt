pub mod Matrix
pub mod Merge
pub mod Graphics
pub mod Slots
pub mod Reads
pub mod Machinery
