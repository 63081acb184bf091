pub mod Put
pub mod Versions
