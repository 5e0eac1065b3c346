mod Names
pub mod AdvertisedBy
mod Alikes
mod AtPair
pub mod Awaited
mod Bests
pub mod ChangedNodes
pub mod Exists
pub mod FreePrefixes
pub mod Fronts
pub mod GrownByEach
mod HeldSame
pub mod Indexes
pub mod Joined
pub mod KeptFacts
pub mod LaterMoments
pub mod LeftInOrder
pub mod Marking
pub mod MoreSteps
pub mod OneResult
mod Orders
mod PairRests
pub mod Published
pub mod Ranges
pub mod Renewals
pub mod RestRuns
pub mod Rests
pub mod SameAdvertised
pub mod TakenInside
pub mod SomeRuns
pub mod SomeTurns
pub mod IdleRuns
pub mod Unchanged
