pub mod Accepted
pub mod Parts
pub mod Fine
pub mod Level
pub mod Only
