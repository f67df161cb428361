pub mod Arguments
pub mod Begins
pub mod RegisterLaws
pub mod Turns
pub mod Words
