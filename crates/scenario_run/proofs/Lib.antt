pub mod Lists
pub mod Walks
pub mod Settings
pub mod Shares
pub mod Worlds
pub mod Happening
pub mod Codes
pub mod Running
