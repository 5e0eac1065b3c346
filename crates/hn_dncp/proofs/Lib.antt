mod Names
mod PeerLemmas
mod OneTlvMore
mod Packings
mod PackingMade
mod HeardPeersStay
mod TickWhenNothingIsDue
