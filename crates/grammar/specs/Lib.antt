pub mod Words
pub mod Signals
pub mod Values
pub mod Times
pub mod Grammar
pub mod Reading
