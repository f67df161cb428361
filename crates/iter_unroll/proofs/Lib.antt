pub mod accepted
pub mod counts
pub mod meaning
pub mod unrolling
