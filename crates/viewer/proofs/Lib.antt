pub mod Split
pub mod Digits
pub mod Changes
pub mod Ticks
pub mod Back
