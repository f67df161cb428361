pub mod Compiled
pub mod Extends
pub mod Flat
pub mod Means
pub mod Measures
pub mod OneLoad
pub mod Shallow
