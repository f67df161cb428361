-- What a reader must believe
pub mod Report
pub mod Answer
-- For contracts of private functions
pub mod inner
