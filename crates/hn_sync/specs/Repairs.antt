-- What one exchange repairs: of each node that a router reaches, the router that asked it holds as much, or no less.
use Rattle.std.specs.Prelude.{◌≡◌, ◌≢◌, ◌⊎◌, ◌+◌, ◌≤◌, ◌++◌, ◌==◌, ◌&&◌, ℕ, Bool, not, List, [], length, filter, Contains, Option, Some, is_none}
use Rattle.hn_base.specs.Name.{name_text}
use Rattle.hn_base.specs.declared.ids.NodeId.{NodeId}
use Rattle.hn_base.specs.declared.name.Name.{Name}
use Rattle.hn_data.specs.declared.view.Entry.{Entry}
use Rattle.hn_hash.specs.Hash.{hash_of, Collides}
use Rattle.hn_rules.specs.declared.state.State.{State}
use Rattle.hn_rules.specs.Nodes.{view_of}
use Rattle.hn_store.specs.Acceptance.{PlainState, IsStale}
use Rattle.hn_store.specs.Nodes.{held, stored_part}
use Rattle.hn_store.specs.declared.stored.Stored.{Stored}
use Rattle.hn_world.specs.declared.event.Traced.{Traced}
use Rattle.hn_world.specs.declared.member.Member.{Member}
use Rattle.hn_world.specs.declared.parts.Parts.{Parts}
use Rattle.hn_world.specs.Names.{member_named}
use Rattle.hn_world.specs.Replay.{Replays}

-- ---- one node

-- a Node State without data that says of a node what is known of it (RFC 7787, section 7.2.3)
abbrev pub state_of : Entry → PlainState
state_of n = record { node = n.id.0; number = n.number; age = 0; hash = hash_of n.body; body = [] }

-- the router holds the sequence number and the data of the node
pub record HoldsAs (s : State) (n : Entry) : Type 0 where
  pub stored : Stored
  pub is_held : held s.table.entries n.id.0 ≡ Some stored
  pub number : stored.number ≡ n.number
  pub body : stored.body ≡ n.body

-- The router held a sequence number of the node that is not older, with the same hash of its data where the numbers are
-- equal (RFC 7787, section 4.4), and it holds the same still. Its moment of loss may be another one (section 4.6).
pub record KeepsNewer (before after : State) (n : Entry) : Type 0 where
  pub stored : Stored
  pub was_held : held before.table.entries n.id.0 ≡ Some stored
  pub stale : IsStale (Some (stored_part stored)) (state_of n)
  pub lost : Option ℕ
  pub is_held : held after.table.entries n.id.0 ≡ Some (record stored { lost = lost })

-- The data of the node, and those of it that the router held or no data, differ and have one hash. A Node State without
-- data whose hash is that of no bytes is read as one with no data.
pub record CollidesWithHeld (before : State) (n : Entry) : Type 0 where
  pub other : List ℕ
  pub was_held : ((stored : Stored) × (held before.table.entries n.id.0 ≡ Some stored) × (other ≡ stored.body)) ⊎ (other ≡ [])
  pub collide : Collides n.body other

-- one of the three
abbrev pub IsRepaired : State → State → Entry → Type 0
IsRepaired before after n = HoldsAs after n ⊎ (KeepsNewer before after n ⊎ CollidesWithHeld before n)

-- ---- an exchange

-- a router neither is that node nor holds it
abbrev pub is_news : State → NodeId → Bool
is_news s id = not (id.0 == s.id.0) && is_none (held s.table.entries id.0)

-- the nodes that a router holds, and those of a list that it neither is nor holds, fit its table
abbrev pub HasRoomFor : State → List NodeId → Type 0
HasRoomFor s reach = length s.table.entries + length (filter (is_news s) reach) ≤ s.table.limit

-- from one world to a later one of its trace, the router of a name has that identifier in each world between
abbrev pub IsNamedAlways : List ℕ → NodeId → Parts → Parts → Type 0
IsNamedAlways name id before after =
    (past future : List Traced) (then : Parts) (m : Member) → after.trace ≡ past ++ future → length before.trace ≤ length past
    → Replays after.version past then → member_named name then ≡ Some m → m.router.id ≡ id

-- B asked A for the network state, between these worlds (RFC 7787, sections 4.2 and 4.4). If B had room for what A reaches
-- afterwards, and had the same identifier in each world between, then of each node that A reaches afterwards, other than
-- B, one of three holds: B holds what A knows of it; B held a number that is not older, and holds it still; or what A
-- knows of it and what B held of it, or no data, collide.
abbrev pub Repairs : Name → Name → Parts → Parts → Type 0
Repairs a b before after =
    (two one_after two_after : Member)
    → member_named (name_text b) before ≡ Some two
    → member_named (name_text a) after ≡ Some one_after → member_named (name_text b) after ≡ Some two_after
    → HasRoomFor two.router one_after.router.reach → IsNamedAlways (name_text b) two.router.id before after
    → (n : Entry) → Contains (view_of one_after.router) n → n.id ≢ two_after.router.id
    → IsRepaired two.router two_after.router n
