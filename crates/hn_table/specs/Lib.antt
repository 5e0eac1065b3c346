pub mod Lines
pub mod Fate
pub mod FateText
pub mod Outer
pub mod InOrder
pub mod Delegated
pub mod Data
pub mod Table
