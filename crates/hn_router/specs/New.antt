-- A new router.
use Rattle.std.specs.Prelude.{◌≡◌, ℕ, false, [], ◌∷◌, None}
use Rattle.hn_base.specs.declared.ids.NodeId.{NodeId}
use Rattle.hn_base.specs.Caps.{PlainCaps, plain_caps}
use Rattle.hn_rules.specs.declared.state.State.{State}
use Rattle.hn_own.specs.Own.{IsOwnData}
use Rattle.hn_own.specs.HeldPairs.{no_pairs}
use Rattle.hn_rules.specs.Refresh.{own_items, network_state_hash}

-- none of the capabilities
abbrev pub no_caps : PlainCaps
no_caps = record { m = 0; p = 0; h = 0; l = 0 }

-- A router begins: without capabilities, endpoints, delegated and assigned prefixes, a private link and addresses, with
-- sequence number 1, and it reaches itself alone. It may hold as many other nodes as the limit says.
pub record IsNew (id : NodeId) (limit now : ℕ) (s : State) : Type 0 where
  pub id_is : s.id ≡ id
  pub number_is : s.number ≡ 1
  pub moment_is : s.moment ≡ now
  pub caps_are : plain_caps s.caps ≡ no_caps
  pub own_is : IsOwnData s.own
  pub born_is : s.own.born ≡ now
  pub items_are : s.own.items ≡ own_items s
  pub no_prefixes : s.delegated ≡ []
  pub nothing_held : s.held ≡ no_pairs
  pub unclaimed : s.claimed ≡ false
  pub no_private : s.private ≡ None
  pub no_addresses : s.addresses ≡ []
  pub ports_are : s.ports ≡ []
  pub table_is : s.table ≡ record { limit = limit; entries = [] }
  pub reach_is : s.reach ≡ id ∷ []
  pub net_is : s.net ≡ network_state_hash s
  pub due_is : s.due ≡ 0
