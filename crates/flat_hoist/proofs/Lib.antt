pub mod Bytes
pub mod Same
pub mod Rows
pub mod Kept
pub mod Whole
