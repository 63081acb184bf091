pub mod Takes
pub mod Numbers
pub mod Steps
pub mod Ticks
pub mod Back
pub mod Comment
