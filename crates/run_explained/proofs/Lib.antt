pub mod Steps
pub mod Orders
pub mod Named
pub mod Scenarios
pub mod Requests
pub mod Explained
