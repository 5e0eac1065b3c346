pub mod Peers
pub mod Home
pub mod Text
