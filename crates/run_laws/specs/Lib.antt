-- What a reader must believe
pub mod Plan
pub mod Flat
pub mod Node
pub mod Client
pub mod World
pub mod Laws
-- What only the proofs use
pub mod Spines
