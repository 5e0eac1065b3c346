pub mod Named
pub mod Played
pub mod ToldCopies
pub mod ToldStates
pub mod ToldTexts
