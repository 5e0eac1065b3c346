-- The parts of a tick: silent peers and lost nodes go, and each endpoint sends what is due (RFC 7787, sections 4.3, 4.6
-- and 6.1; RFC 6206, section 4.2).
use Rattle.std.specs.Prelude.{◌≡◌, ℕ, false, ◌⊎◌, IsTrue, List, [], ◌∷◌, ◌++◌, map, Option, Some, None, length}
use Rattle.std.specs.List.{filter_map}
use Rattle.hn_base.specs.declared.ids.EpId.{EpId}
use Rattle.hn_tlv.specs.Grammar.{spelling}
use Rattle.hn_typed.specs.Item.{NetworkState}
use Rattle.hn_typed.specs.Written.{tlv_of}
use Rattle.hn_timers.specs.KeepAlive.{is_expired}
use Rattle.hn_data.specs.Items.{HasItems}
use Rattle.hn_data.specs.Said.{interval_of, keep_alive_of}
use Rattle.hn_dncp.specs.declared.peers.Neighbour.{Neighbour}
use Rattle.hn_dncp.specs.declared.port.Port.{Port}
use Rattle.hn_dncp.specs.Tick.{ticked, tick_words, tick_sends}
use Rattle.hn_dncp.specs.Packing.{IsPacking}
use Rattle.hn_store.specs.Nodes.{held}
use Rattle.hn_store.specs.Loss.{remembered}
use Rattle.hn_store.specs.declared.stored.Stored.{Stored}
use Rattle.hn_rules.specs.declared.state.State.{State}
use Rattle.hn_rules.specs.declared.running.Running.{Running}
use Rattle.hn_own.specs.Ports.{endpoints_of}
use Rattle.hn_base.specs.Rules.{Then, Each}
use Rattle.hn_rules.specs.Rules.{Rule, AtPort, with_words, with_port}

-- the keep-alive interval of a peer: by its held data, and 20,000 ms where none is held (RFC 7787, section 6.1.5; RFC
-- 7788, section 3)
abbrev pub HasInterval : Option Stored → EpId → ℕ → Type 0
HasInterval None endpoint interval = interval ≡ 20000
HasInterval (Some stored) endpoint interval = HasItems stored.body (λ items. interval ≡ keep_alive_of (filter_map interval_of items) endpoint.0)

-- a peer whose keep-alives have stopped
abbrev pub IsExpired : State → Neighbour → Type 0
IsExpired s peer = (interval : ℕ) × HasInterval (held s.table.entries peer.node.0) peer.endpoint interval × IsTrue (is_expired peer.contact interval s.moment)

-- the list without the elements of which a fact holds
abbrev pub Without : {A : Type 0} → (A → Type 0) → List A → List A → Type 0
Without P [] kept = kept ≡ []
Without {A} P (x ∷ xs) kept =
    (P x × Without P xs kept)
    ⊎ ((rest : List A) × (¬ (P x)) × Without P xs rest × (kept ≡ x ∷ rest))

-- the expired peers of an endpoint go
pub record IsPortExpiry (port : Port) (before after : Running) : Type 0 where
  pub peers : List Neighbour
  pub without : Without (IsExpired before.state) port.peers peers
  pub gives : after ≡ with_port (record port { peers = peers }) before

-- the expired peers of each endpoint go
abbrev pub IsExpiry : Rule
IsExpiry before after = Each (λ at. AtPort at IsPortExpiry) (endpoints_of before.state.ports) before after

-- nodes lost for 42,000 ms or longer are forgotten
abbrev pub forgetting : Running → Running
forgetting r = record r { state = record r.state { table = remembered r.state.moment r.state.table } }

-- the network state hash is sent by multicast
pub record IsStateSending (at : EpId) (before after : Running) : Type 0 where
  pub datagrams : List (List ℕ)
  pub packed : IsPacking before.state.id at (spelling (tlv_of (NetworkState before.state.net [])) ∷ []) datagrams
  pub gives : after ≡ record before { done = record before.done { sends = before.done.sends ++ map (λ bytes. record { endpoint = at; to = None; bytes = bytes }) datagrams } }

-- Trickle of an endpoint fires, then the next interval, then the keep-alive; each interval that begins takes a word
pub record IsPortMoving (port : Port) (before after : Running) : Type 0 where
  pub words : List ℕ
  pub as_many : length words ≡ tick_words before.state.moment port
  pub gives : after ≡ with_words words (with_port (ticked before.state.moment words port) before)

-- where one is due, a Network State is sent
abbrev pub IsPortSending : Port → Rule
IsPortSending port before after =
    (IsTrue (tick_sends before.state.moment port) × IsStateSending port.id before after)
    ⊎ ((tick_sends before.state.moment port ≡ false) × (after ≡ before))

abbrev pub IsPortTick : Port → Rule
IsPortTick port = Then (IsPortMoving port) (IsPortSending port)

-- the endpoints in ascending order
abbrev pub IsPortsTick : Rule
IsPortsTick before after = Each (λ at. AtPort at IsPortTick) (endpoints_of before.state.ports) before after
