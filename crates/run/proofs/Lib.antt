pub mod Kept
pub mod Door
pub mod Control
