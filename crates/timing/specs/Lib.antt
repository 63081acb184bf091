pub mod Beam
pub mod Set
