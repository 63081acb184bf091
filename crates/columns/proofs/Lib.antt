pub mod Clocks
pub mod Latched
pub mod Framed
