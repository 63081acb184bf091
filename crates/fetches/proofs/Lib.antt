pub mod Order
pub mod Glue
pub mod Goes
