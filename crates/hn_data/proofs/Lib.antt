mod Names
pub mod PeerPlaces
pub mod OneReading
pub mod OneMoreItem
pub mod DoneUpTo
pub mod FirstSaid
pub mod JoinedPieces
pub mod WrittenPieces
mod LaterNetwork
mod ItemsExist
