pub mod Alike
pub mod Folds
