pub mod Copy
pub mod Pieces
pub mod Played
pub mod Short
