mod Names
pub mod Endpoints
pub mod FirstGoes
pub mod Lengths
pub mod EndSoon
pub mod Turns
