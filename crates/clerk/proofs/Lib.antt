pub mod Glue
pub mod Turns
pub mod Blocks
