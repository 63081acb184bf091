pub mod Tick
pub mod Line
pub mod Machinery
