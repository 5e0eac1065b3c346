pub mod ItemText
pub mod Line
pub mod Nested
pub mod Laws
