pub mod Set
pub mod Border
