pub mod Words
pub mod Parts
pub mod Unsettled
pub mod Unquiet
pub mod Why
