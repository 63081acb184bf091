pub mod Same
pub mod Laws
pub mod Plain
pub mod Told
