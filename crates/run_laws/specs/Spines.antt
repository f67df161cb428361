-- Why the laws hold: the spine of each request, Sound, and the state in which the drain works. No law of a run names it.
pub mod Spine
pub mod Fits
pub mod Sound
pub mod Drain
pub mod Carries
