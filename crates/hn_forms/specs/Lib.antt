pub mod HexText
pub mod Decode
pub mod Capture
pub mod Watch
pub mod Form
pub mod Node
pub mod Outcome
