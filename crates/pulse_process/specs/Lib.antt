-- What a reader must believe
pub mod Lines
pub mod Bound
pub mod Node
pub mod Switch
pub mod Ask
pub mod Answer
-- For contracts of private functions
pub mod inner
