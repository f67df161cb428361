pub mod Below
pub mod Drawing
pub mod Filled
pub mod Rising
