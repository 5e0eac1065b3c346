pub mod Output
pub mod Refusal
pub mod Laws
pub mod TextLines
