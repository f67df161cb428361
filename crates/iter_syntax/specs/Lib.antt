-- What is to be believed: all but Steps.
pub mod Names
pub mod Tree
pub mod Operators
pub mod Kinds
pub mod Grammar
pub mod Form
pub mod Productions
pub mod Program
pub mod Bytes
pub mod Spelling
pub mod Deep
pub mod Tokens
pub mod Parsed
pub mod Printed
pub mod Bare
pub mod Steps
