pub mod Anew
pub mod Choosing
pub mod Chosen
pub mod Kept
pub mod Laws
pub mod Preferred
pub mod Words
