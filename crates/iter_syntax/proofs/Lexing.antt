-- Laws of the tokens: the reader finds them, and a text has just one reading.
pub mod Prefixes
pub mod Symbols
pub mod Numbers
pub mod Words
pub mod Reading
pub mod Gaps
pub mod Steps
pub mod OneReading
