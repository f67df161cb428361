pub mod Notes
pub mod Nodes
pub mod Clients
pub mod Fits
pub mod Sends
pub mod Events
pub mod Drains
