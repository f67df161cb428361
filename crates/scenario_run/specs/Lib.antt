pub mod Setting
pub mod Start
pub mod Code
pub mod Laws
