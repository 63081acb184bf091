pub mod Was
pub mod Agree
