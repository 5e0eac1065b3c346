pub mod Ula
pub mod Said
pub mod Found
pub mod Laws
