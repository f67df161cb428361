pub mod Scenes
pub mod Belonging
pub mod FirstWorld
pub mod OneEvent
pub mod Holding
pub mod Replays
pub mod Whole
