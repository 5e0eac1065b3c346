-- An arrival that is let pass: a status update that changes next to nothing (RFC 7787, sections 4.3, 4.4, 7.2.1 and 7.2.2).
use Rattle.std.specs.Prelude.{◌≡◌, ℕ, IsTrue, List, [], ◌∷◌}
use Rattle.std.specs.Option.{option_map_or}
use Rattle.hn_base.specs.Addr.{IsLinkLocal}
use Rattle.hn_base.specs.declared.ids.NodeId.{NodeId}
use Rattle.hn_base.specs.declared.ids.EpId.{EpId}
use Rattle.hn_tlv.specs.Grammar.{PlainTlv, IsTlvList}
use Rattle.hn_typed.specs.Item.{NodeEndpoint, NetworkState}
use Rattle.hn_typed.specs.Table.{IsItem}
use Rattle.hn_own.specs.Ports.{is_attached, heard_at}
use Rattle.hn_rules.specs.declared.arrival.passing.Passing.{Passing}
use Rattle.hn_rules.specs.declared.running.Origin.{Origin}
use Rattle.hn_rules.specs.declared.running.Running.{Running}
use Rattle.hn_rules.specs.declared.state.State.{State}
use Rattle.hn_rules.specs.Arrival.{IsArrival}
use Rattle.hn_rules.specs.Done.{nothing}
use Rattle.hn_rules.specs.Rules.{begun_at}

-- a status update: a Node Endpoint and a Network State, and nothing else, as Trickle and keep-alives send it (RFC 7787,
-- sections 4.3 and 6.1.2)
pub record IsStatusUpdate (bytes : List ℕ) (node : NodeId) (endpoint : EpId) (hash : List ℕ) : Type 0 where
  pub first : PlainTlv
  pub second : PlainTlv
  pub within_first : List ℕ
  pub within_second : List ℕ
  pub list : IsTlvList (first ∷ second ∷ []) bytes
  pub sender : IsItem first (NodeEndpoint node.0 endpoint.0 within_first)
  pub state : IsItem second (NetworkState hash within_second)

-- the router at a moment, once its endpoint heard what it hears
abbrev pub passed : Passing → ℕ → State → State
passed p now s = record s { moment = now; ports = option_map_or (λ sender. heard_at p.endpoint sender now s.ports) p.heard s.ports }

-- the router as it is kept then, with no moment at which something is next due
abbrev pub after_passing : Passing → ℕ → State → State
after_passing p now s = record (passed p now s) { due = 0 }

-- An arrival is let pass that a router accepts and reads, where the rule of an arrival changes this and nothing comes of it.
pub record IsLetPass (from : Origin) (bytes : List ℕ) (now : ℕ) (s : State) (p : Passing) : Type 0 where
  pub attached : IsTrue (is_attached from.endpoint s.ports)
  pub near : IsLinkLocal from.from.ip
  pub tlvs : List PlainTlv
  pub list : IsTlvList tlvs bytes
  pub after : Running
  pub arrives : IsArrival from tlvs (begun_at now s) after
  pub state : after.state ≡ passed p now s
  pub done : after.done ≡ nothing
