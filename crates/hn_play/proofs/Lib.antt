mod Names
pub mod RunStops
pub mod RunAnswers
pub mod RunStarved
pub mod RunEvents
pub mod RunCopies
pub mod RunTimes
pub mod RunDeliveries
pub mod RunWrites
pub mod RunEach
pub mod RunTurns
pub mod FirstWords
pub mod NamedRouters
