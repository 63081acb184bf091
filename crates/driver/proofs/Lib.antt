pub mod Glue
