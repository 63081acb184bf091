pub mod Kept
pub mod Timing
pub mod Modes
