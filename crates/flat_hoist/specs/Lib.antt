-- What is to be believed: `Hoisted`.
pub mod Hoisted
pub mod hoisting
