pub mod Rows
pub mod Masks
pub mod Columned
pub mod Views
pub mod Counters
pub mod Glue
pub mod Fetched
