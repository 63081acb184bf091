pub mod Folds
pub mod Kept
