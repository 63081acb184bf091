pub mod Memory
pub mod Lent
