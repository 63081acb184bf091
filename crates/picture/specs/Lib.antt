pub mod Pen
pub mod Reads
pub mod Set
pub mod Machinery
