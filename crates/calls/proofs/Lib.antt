pub mod Parts
pub mod Kept
pub mod Sides
pub mod Numbers
pub mod Door
pub mod Control
pub mod Silent
