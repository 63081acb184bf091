pub mod Parts
pub mod Listed
pub mod Renewed
