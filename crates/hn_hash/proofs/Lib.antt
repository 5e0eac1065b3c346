mod Names
pub mod HashLengths
pub mod AlikeLeaves
pub mod SameOrCollide
pub mod FirstDifference
pub mod PartsOfLeaves
mod HashBytes
