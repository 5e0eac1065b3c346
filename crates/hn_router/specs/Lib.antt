pub mod Act
pub mod New
pub mod Kept
pub mod Laws
pub mod Plan
pub mod Sends
pub mod Advertising
pub mod Infos
