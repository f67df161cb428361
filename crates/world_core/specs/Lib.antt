pub mod Letters
pub mod Scene
pub mod Turns
pub mod Runs
pub mod Laws
pub mod Drains
pub mod inner
