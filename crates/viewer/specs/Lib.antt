pub mod Words
pub mod Reader
