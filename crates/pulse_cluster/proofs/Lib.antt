pub mod Families
pub mod Stopping
pub mod Whole
pub mod Faults
