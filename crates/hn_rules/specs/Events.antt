-- Events beside arrivals and ticks: endpoints that are attached and detached, capabilities, a restart, the private link
-- and own addresses.
use Rattle.std.specs.Prelude.{◌≡◌, ℕ, false, nat_eq, if◌then◌else◌, List, [], ◌∷◌, Option}
use Rattle.std.specs.Option.{option_eq}
use Rattle.hn_base.specs.declared.ids.EpId.{EpId}
use Rattle.hn_base.specs.declared.caps.Caps.{Caps}
use Rattle.hn_dncp.specs.declared.port.Port.{Port}
use Rattle.hn_dncp.specs.Port.{attached_port}
use Rattle.hn_rules.specs.declared.running.Running.{Running}
use Rattle.hn_own.specs.Addresses.{OwnAddress, addresses_without}
use Rattle.hn_own.specs.HeldPairs.{no_pairs, without_private}
use Rattle.hn_own.specs.Ports.{attached, detached, endpoints_of}
use Rattle.hn_base.specs.Rules.{Then, Each}
use Rattle.hn_rules.specs.Rules.{Rule, AtPort, with_words, with_port}
use Rattle.hn_rules.specs.Refresh.{Publishes}

-- an endpoint is attached, with a word for its first interval
pub record IsAttaching (at : EpId) (before after : Running) : Type 0 where
  pub word : ℕ
  pub gives : after ≡ with_words (word ∷ []) (record before { state = record before.state { ports = attached (attached_port at before.state.moment word) before.state.ports } })

-- an endpoint is detached, with its peers and its addresses
abbrev pub detaching : EpId → Running → Running
detaching at r =
    record r { state = record r.state { ports = detached at r.state.ports; addresses = addresses_without at r.state.addresses } }

-- the router gets these capabilities
abbrev pub setting_caps : Caps → Running → Running
setting_caps caps r = record r { state = record r.state { caps = caps } }

-- an endpoint begins anew, with a word for its first interval
pub record IsPortRestart (port : Port) (before after : Running) : Type 0 where
  pub word : ℕ
  pub gives : after ≡ with_words (word ∷ []) (with_port (attached_port port.id before.state.moment word) before)

-- The private link is set or ended. Where its length changes, what is held for it is destroyed.
abbrev pub setting_private : Option ℕ → Running → Running
setting_private private r =
    if option_eq nat_eq private r.state.private then r
    else record r { state = record r.state { private = private; held = without_private r.state.held } }

-- the router gets these addresses
abbrev pub setting_addresses : List OwnAddress → Running → Running
setting_addresses list r = record r { state = record r.state { addresses = list } }

-- the nodes that were held, the assignments, the backoffs, the claims and the addresses are forgotten
abbrev pub emptied : Running → Running
emptied r = record r {
  state = record r.state { table = record r.state.table { entries = [] }; held = no_pairs; claimed = false; addresses = [] };
}

-- A restart: the router keeps its identifier, its capabilities, its delegated prefixes, its private link and its endpoints,
-- each of which begins anew, in ascending order; it forgets the nodes it held, its peers, its assignments and backoffs, the
-- claims and its addresses, and publishes with number 1 (RFC 7787, section 4.4).
abbrev pub IsRestarting : Rule
IsRestarting before after =
    Then (Each (λ at. AtPort at IsPortRestart) (endpoints_of before.state.ports)) (Publishes 1) (emptied before) after
