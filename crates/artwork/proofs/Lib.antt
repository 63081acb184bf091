pub mod Shared
pub mod Artwork
pub mod Instances
pub mod Modes
pub mod Needed
pub mod Numbers
pub mod Addresses
