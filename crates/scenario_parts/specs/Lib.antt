pub mod Parts
pub mod Switch
pub mod Clients
pub mod Yards
