pub mod Fits
pub mod Laws
pub mod Run
pub mod Rules
