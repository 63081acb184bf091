pub mod Leap
pub mod Halves
