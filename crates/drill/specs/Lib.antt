-- What a reader must believe
pub mod Summary
pub mod Answer
-- For contracts of private functions
pub mod inner
