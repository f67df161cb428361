pub mod NamesView
pub mod Slots
pub mod Worth
