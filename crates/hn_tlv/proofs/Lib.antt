mod Names
pub mod BeginningOfTlvs
pub mod OneReading
pub mod TlvAtPlace
pub mod PadBytes
pub mod TakenApart
pub mod ListOrFault
mod SpelledBytes
