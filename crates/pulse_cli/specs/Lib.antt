pub mod Answers
pub mod Ending
pub mod Lines
pub mod Sides
pub mod Steps
pub mod Uses
