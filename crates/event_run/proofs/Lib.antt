pub mod Lists
pub mod Happens
pub mod Keeps
pub mod Runs
pub mod Start
