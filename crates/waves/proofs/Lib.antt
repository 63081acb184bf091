pub mod Words
pub mod Edges
pub mod Asks
pub mod Line
pub mod Runs
pub mod Cuts
pub mod Glue
