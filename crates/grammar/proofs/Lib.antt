pub mod Parts
pub mod Digit
pub mod Examples
