pub mod Iterations
pub mod Leads
pub mod Ran
pub mod Steps
