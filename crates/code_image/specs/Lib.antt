pub mod Segments
pub mod Layout
pub mod Spelling
pub mod Checks
pub mod Parts
pub mod Listing
pub mod Lines
