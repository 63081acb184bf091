pub mod Relayed
pub mod Gap
pub mod Linked
