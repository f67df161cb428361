pub mod Memory
pub mod Table
pub mod Order
pub mod Searchable
