pub mod Serving
pub mod Holding
pub mod Placing
pub mod Telling
pub mod Asking
pub mod Answering
