pub mod Shown
pub mod Seen
pub mod Claim
pub mod Held
pub mod Places
pub mod Remembered
pub mod Watch
pub mod Laws
