pub mod Options
pub mod Faults
pub mod Scopes
pub mod Indices
pub mod Fields
pub mod Expressions
pub mod Statements
pub mod Programs
