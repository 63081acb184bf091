pub mod Cursor
pub mod Block
