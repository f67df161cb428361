pub mod NumberWord
pub mod Words
pub mod inner
