pub mod Frames
pub mod Runs
pub mod SwitchRun
pub mod NodeRun
pub mod ClientRun
pub mod inner
