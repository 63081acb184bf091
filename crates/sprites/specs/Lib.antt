pub mod Set
pub mod Sprites
pub mod Fine
