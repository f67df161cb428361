mod Positions
mod Faults
mod Orders
mod Lookups
pub mod Laws
