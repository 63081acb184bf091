pub mod Sides
pub mod Traces
