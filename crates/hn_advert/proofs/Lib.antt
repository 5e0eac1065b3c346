mod Names
pub mod Fields
pub mod Outcome
pub mod Unique
pub mod Steps
pub mod Total
pub mod Written
pub mod Answered
