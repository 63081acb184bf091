pub mod Steps
pub mod Agree
