pub mod Turns
pub mod Blocks
pub mod Glue
