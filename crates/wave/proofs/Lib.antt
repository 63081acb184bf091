pub mod Glue
pub mod Thirteen
pub mod Widths
