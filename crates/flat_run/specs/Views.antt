pub mod Interpreter
