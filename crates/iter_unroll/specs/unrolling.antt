-- What only proofs use.
pub mod Scope
pub mod Flattened
pub mod Tied
pub mod Whole
pub mod Views
pub mod Steps
pub mod Bounds
