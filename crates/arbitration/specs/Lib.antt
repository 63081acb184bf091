pub mod Set
pub mod Bus
