pub mod Requests
pub mod Begins
pub mod Calls
pub mod inner
