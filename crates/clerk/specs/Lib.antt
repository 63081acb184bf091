pub mod Bus
pub mod Machinery
