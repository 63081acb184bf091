pub mod Phases
pub mod Turn
pub mod Fine
pub mod Set
pub mod Machinery
