pub mod Glue
pub mod Laws
pub mod Compare
