pub mod Form
pub mod Report
pub mod Laws
pub mod Answer
pub mod Lines
