pub mod Departed
pub mod Laws
