pub mod Numbers
pub mod Encode
pub mod Decode
pub mod Saved
