pub mod Frames
pub mod Setting
pub mod Nodes
pub mod Clients
pub mod Switches
pub mod Laws
pub mod Keeps
