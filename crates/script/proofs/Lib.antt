pub mod Room
pub mod Whole
pub mod Back
pub mod Blocks
pub mod Numbers
pub mod Allowed
pub mod Examples
pub mod Retired
