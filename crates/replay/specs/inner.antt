pub mod First
pub mod Held
pub mod Runs
pub mod Made
