pub mod Calls
pub mod Kinds
pub mod Looks
pub mod Scripts
