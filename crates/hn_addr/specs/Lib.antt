pub mod Addresses
pub mod OfNodes
pub mod Others
pub mod Own
pub mod Numbers
pub mod Choosings
pub mod Laws
