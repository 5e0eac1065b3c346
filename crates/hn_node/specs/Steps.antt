-- What a node does to what it keeps: its router, its log, and how many datagrams it sent.
use Rattle.std.specs.Prelude.{◌≡◌, ℕ, ◌+◌, ◌-◌, ◌^◌, ◌≤◌, List, [], ◌∷◌, ◌++◌, length, min, All, Option}
use Rattle.hn_base.specs.Words.{Took}
use Rattle.hn_wire.specs.declared.datagram.Datagram.{Datagram}
use Rattle.hn_node.specs.declared.logged.Logged.{Logged}
use Rattle.hn_node.specs.declared.node.Node.{Node}
use Rattle.hn_node.specs.declared.sending.Site.{Site}
use Rattle.hn_node.specs.Turns.{PlainSite, SendsAll, SendsPart, IsBounded, logged_words}

-- the ports, without where they lie in memory
abbrev pub plain_site : Site → PlainSite
plain_site site = record { port = site.port; peers = site.peers.now }

-- after each of these ports there is another
pub record IsSite (at : PlainSite) : Type 0 where
  pub port : at.port ≤ 65534
  pub peers : All (λ peer. peer ≤ 65534) at.peers

-- a count after so many more; it stops at 2^64 - 1
abbrev pub counted : ℕ → ℕ → ℕ
counted count more = count + min more (2 ^ 64 - 1 - count)

-- datagrams were sent, one after another, and counted
pub record HandsAll (ds : List Datagram) (before after : Option (List Datagram)) (sent sent_after : ℕ) : Type 0 where
  pub sends : SendsAll ds before after
  pub counts : sent_after ≡ counted sent (length ds)

-- a proper front of them was sent, and counted
pub record HandsPart (ds : List Datagram) (before after : Option (List Datagram)) (sent sent_after : ℕ) : Type 0 where
  pub front : List Datagram
  pub sends : SendsPart ds front before after
  pub counts : sent_after ≡ counted sent (length front)

-- an entry was added to the log, and these datagrams were sent
pub record AddsEntry (l : Logged) (handed : List Datagram) (told told_after : Option (ℕ → ℕ)) (before after : Node) : Type 0 where
  pub log : after.log ≡ before.log ++ l ∷ []
  pub words : Took told l.words told_after
  pub sent : after.sent ≡ counted before.sent (length handed)
  pub bounded : IsBounded l
  pub limit : after.router.table.limit ≡ before.router.table.limit

-- entries were added to the log, and these datagrams were sent
pub record Grows (entries : List Logged) (handed : List Datagram) (told told_after : Option (ℕ → ℕ)) (before after : Node) : Type 0 where
  pub log : after.log ≡ before.log ++ entries
  pub words : Took told (logged_words entries) told_after
  pub sent : after.sent ≡ counted before.sent (length handed)
  pub bounded : All IsBounded entries
  pub limit : after.router.table.limit ≡ before.router.table.limit
