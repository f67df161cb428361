pub mod Layout
pub mod Spelling
pub mod Checks
pub mod Parts
