pub mod Compiles
pub mod Emits
pub mod Folds
pub mod Rows
pub mod Whole
