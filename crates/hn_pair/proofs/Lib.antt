mod Names
pub mod AroundPair
pub mod Keeping
pub mod MarksInOrder
pub mod Orders
pub mod SomeLists
pub mod WishLemmas
