pub mod Walk
pub mod Request
pub mod Region
pub mod Step
pub mod Run
pub mod Due
pub mod Laws
pub mod Views
