pub mod Step
pub mod File
pub mod Machinery
