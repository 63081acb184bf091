pub mod Sheet
pub mod Machinery
pub mod Chart
pub mod Desk
