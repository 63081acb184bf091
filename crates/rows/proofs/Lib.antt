pub mod Glue
pub mod Parts
pub mod Kept
pub mod Laws
