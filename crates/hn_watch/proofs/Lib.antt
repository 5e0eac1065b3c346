mod Names
pub mod Orders
pub mod ShownLemmas
pub mod Claims
pub mod KeptLemmas
pub mod Steps
pub mod Conflicts
pub mod SeenLemmas
