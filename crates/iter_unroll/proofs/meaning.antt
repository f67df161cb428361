pub mod Options
pub mod Leaves
pub mod Names
pub mod Values
pub mod Statements
pub mod Whole
