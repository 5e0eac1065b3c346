pub mod Joined
pub mod Exchange
pub mod Repairs
pub mod Laws
