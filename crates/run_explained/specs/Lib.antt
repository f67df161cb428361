-- What a reader must believe
pub mod Explained
pub mod Laws
-- The laws of runs speak of states by functions
pub mod View
