pub mod Join
pub mod Few
pub mod Back
pub mod Copy
pub mod Numerals
