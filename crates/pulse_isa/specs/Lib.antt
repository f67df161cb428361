pub mod Bytes
pub mod Lines
pub mod Opcodes
pub mod Spelling
pub mod Step
pub mod Table
pub mod Words
