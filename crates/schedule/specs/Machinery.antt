pub mod Places
pub mod Stretches
pub mod Reads
