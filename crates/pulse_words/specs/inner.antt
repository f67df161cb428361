pub mod Heads
pub mod Line
pub mod Readers
