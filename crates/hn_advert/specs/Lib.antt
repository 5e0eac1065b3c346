pub mod Layout
pub mod Advert
pub mod Fault
pub mod Reading
