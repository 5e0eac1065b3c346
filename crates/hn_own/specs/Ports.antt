-- The endpoints of a router.
use Rattle.std.specs.Prelude.{ℕ, Bool, true, ◌<◌, ◌≤◌, ◌^◌, ◌==◌, not, nat_lt, if◌then◌else◌, List, ◌∷◌, ◌++◌, length, map, filter, find, Option, Some, is_some, All}
use Rattle.std.specs.Option.{option_map_or}
use Rattle.std.specs.Ordering.{nat_cmp}
use Rattle.std.specs.List.Sorted.{IsStrictlySortedBy}
use Rattle.hn_base.specs.declared.ids.EpId.{EpId}
use Rattle.hn_base.specs.declared.ids.NodeId.{NodeId}
use Rattle.hn_dncp.specs.declared.port.Port.{Port}
use Rattle.hn_dncp.specs.Hash.{hashed}

-- the number of an endpoint
abbrev pub number : Port → ℕ
number port = port.id.0

-- what holds of the endpoints of a router: they are in strictly ascending order, at most 16, and each has a number of 4
-- bytes other than 0
pub record ArePorts (ports : List Port) : Type 0 where
  pub ascending : IsStrictlySortedBy nat_cmp (map number ports)
  pub few : length ports ≤ 16
  pub numbered : All (λ p. (0 < p.id.0) × (p.id.0 < 2 ^ 32)) ports

-- the numbers of the endpoints
abbrev pub endpoints_of : List Port → List EpId
endpoints_of ports = map (λ p. p.id) ports

-- whether it is that endpoint
abbrev pub is_port : EpId → Port → Bool
is_port at port = port.id.0 == at.0

-- the endpoint of that number, if it is attached
abbrev pub port_at : EpId → List Port → Option Port
port_at at ports = find (is_port at) ports

-- whether it is attached
abbrev pub is_attached : EpId → List Port → Bool
is_attached at ports = is_some (port_at at ports)

-- the endpoints, with this one in place of the one with its number
abbrev pub put_port : Port → List Port → List Port
put_port port ports = map (λ p. if is_port port.id p then port else p) ports

-- the endpoints, where the one of that number, if it is attached, hears the local network state hash from a sender
abbrev pub heard_at : EpId → NodeId × EpId → ℕ → List Port → List Port
heard_at at sender now ports = option_map_or (λ port. put_port (hashed true (Some sender) now port) ports) (port_at at ports) ports

-- the endpoints, and a new one at its place in the order
abbrev pub attached : Port → List Port → List Port
attached port ports = filter (λ p. nat_lt p.id.0 port.id.0) ports ++ port ∷ filter (λ p. nat_lt port.id.0 p.id.0) ports

-- the endpoints without the one of that number
abbrev pub detached : EpId → List Port → List Port
detached at ports = filter (λ p. not (is_port at p)) ports
