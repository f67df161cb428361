pub mod ByteLaws
pub mod Words
