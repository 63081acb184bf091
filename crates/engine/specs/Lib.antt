pub mod Begin
pub mod Counters
pub mod Parts
pub mod World
