pub mod Endings
pub mod ImageRefusals
pub mod Iterators
pub mod Outputs
pub mod Faults
