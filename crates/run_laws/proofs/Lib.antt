-- Legs and slots of a spine
pub mod LegNumbers
pub mod Newest
pub mod FewLegs
-- What each event does to one request's spine
pub mod Follows
pub mod Starts
pub mod LiveLeg
pub mod NextLeg
pub mod Backs
pub mod Round
pub mod Hearing
pub mod OneRequest
-- What it does to the world
pub mod Events
pub mod First
pub mod Sentences
pub mod AnswersStay
pub mod Shapes
pub mod KeptSent
pub mod DrainStep
