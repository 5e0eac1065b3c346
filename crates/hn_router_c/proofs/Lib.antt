pub mod Options
pub mod Refusals
pub mod Remembered
