mod Names
pub mod Held
pub mod Parts
