pub mod Live
pub mod Steps
pub mod Used
pub mod Due
pub mod Later
pub mod Laws
pub mod Candidates
