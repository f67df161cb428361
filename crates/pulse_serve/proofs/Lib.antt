pub mod Traffics
pub mod Running
pub mod Nodes64
pub mod SwitchTurns
pub mod NodeTurns
pub mod Answering
pub mod Sweeping
pub mod ClientTurns
