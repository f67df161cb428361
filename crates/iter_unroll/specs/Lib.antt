-- What is to be believed: all but `unrolling`.
pub mod Flat
pub mod Tree
pub mod Limits
pub mod Uses
pub mod Span
pub mod Unrolled
pub mod unrolling
