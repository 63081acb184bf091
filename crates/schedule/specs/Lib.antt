pub mod Kind
pub mod Diagram
pub mod Requests
pub mod Reads
pub mod Machinery
