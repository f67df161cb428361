pub mod Outcome
pub mod Node
pub mod Accepting
pub mod Turning
pub mod Waiting
pub mod Switch
pub mod Client
