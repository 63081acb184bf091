pub mod Signals
pub mod Text
pub mod Machinery
