pub mod World
pub mod Tick
