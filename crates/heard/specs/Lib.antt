pub mod Agrees
pub mod Heard
