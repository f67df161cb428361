pub mod Code
pub mod Frame
pub mod Operator
pub mod Segments
pub mod Statements
