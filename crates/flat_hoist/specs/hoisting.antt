pub mod Fields
pub mod Swapped
pub mod Clear
pub mod Reads
pub mod Hoists
