mod Names
pub mod Entries
pub mod HexTexts
pub mod HexWords
pub mod Limits
pub mod LineWords
pub mod NodeFiles
pub mod Pieces
pub mod PrefixWords
pub mod Printed
pub mod SameEntries
pub mod SameFields
pub mod SameScripts
pub mod SoakExists
pub mod SoakScripts
pub mod SoakTexts
pub mod Values
pub mod Versions
pub mod WordBytes
pub mod WordFaults
mod FittingValues
mod DenseScripts
