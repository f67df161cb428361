pub mod View
pub mod Starts
pub mod Steps
