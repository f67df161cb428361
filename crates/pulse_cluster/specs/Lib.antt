-- What a reader must believe
pub mod Cluster
pub mod Answer
-- For contracts of private functions
pub mod inner
