pub mod View
pub mod Standing
