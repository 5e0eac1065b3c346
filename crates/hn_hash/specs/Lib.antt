pub mod Agreement
pub mod Hash
pub mod Laws
pub mod Network
