mod Names
pub mod RaLineTells
pub mod FirstThatPasses
pub mod KeptByProcesses
pub mod SenderOfEndpoint
pub mod NoRaLines
pub mod InvariantsOfPlays
pub mod KeptBySenders
pub mod KeptByEvents
pub mod SpacedSince
pub mod KeptByLines
pub mod SpacedPlays
