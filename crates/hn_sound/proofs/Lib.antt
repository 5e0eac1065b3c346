mod Names
pub mod SameOrNot
pub mod GreatestIsBest
pub mod HomeTests
pub mod RestIsSound
pub mod FoundOrNone
pub mod RestByElements
pub mod OnePublisher
pub mod RestTests
pub mod PrefixTests
pub mod Unsound
pub mod AdvertisedAndLinks
pub mod WrittenLemmas
