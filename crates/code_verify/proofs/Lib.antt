pub mod Above
pub mod Keeps
pub mod NeverStuck
pub mod Unbroken
