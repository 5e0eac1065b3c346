pub mod Faults
pub mod Memory
pub mod Pcg
pub mod Laws
