pub mod History
pub mod Why
pub mod Chart
pub mod Lost
