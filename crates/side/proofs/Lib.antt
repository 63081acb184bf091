pub mod Glue
pub mod Parts
pub mod Counts
pub mod Kept
pub mod Laws
