pub mod Asking
pub mod OneReport
pub mod OneWalk
pub mod Walks
