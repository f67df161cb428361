pub mod Links
pub mod Spawners
