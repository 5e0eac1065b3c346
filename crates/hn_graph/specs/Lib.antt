pub mod Path
pub mod Search
pub mod Later
pub mod Laws
pub mod Following
pub mod SameLinks
