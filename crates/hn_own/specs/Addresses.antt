-- A router's own addresses: each an address of one of its endpoints (RFC 7788, section 10.4).
use Rattle.std.specs.Prelude.{ℕ, ◌≤◌, ◌==◌, ◌&&◌, not, nat_le, Bool, true, List, [], ◌∷◌, length, filter}
use Rattle.std.specs.declared.cmp.Ordering.{Ordering}
use Rattle.std.specs.Ordering.{on, then_cmp, nat_cmp, is_lt}
use Rattle.std.specs.List.{list_all}
use Rattle.std.specs.List.Sorted.{IsStrictlySortedBy}
use Rattle.hn_base.specs.declared.ids.EpId.{EpId}
use Rattle.hn_dncp.specs.declared.port.Port.{Port}
use Rattle.hn_own.specs.Ports.{is_attached}

-- an endpoint and an address of it
abbrev pub OwnAddress : Type 0
OwnAddress = EpId × ℕ

-- own addresses in order: by their endpoint, then the address
abbrev pub address_cmp : OwnAddress → OwnAddress → Ordering
address_cmp = then_cmp (on (λ a. a.0.0) nat_cmp) (on (λ a. a.1) nat_cmp)

-- what holds of a router's own addresses: they are in strictly ascending order, and at most 64
pub record AreAddresses (list : List OwnAddress) : Type 0 where
  pub ascending : IsStrictlySortedBy address_cmp list
  pub few : length list ≤ 64

-- whether each comes before the next
abbrev pub ascends : List OwnAddress → Bool
ascends [] = true
ascends (a ∷ []) = true
ascends (a ∷ b ∷ rest) = is_lt (address_cmp a b) && ascends (b ∷ rest)

-- whether a list may be the own addresses: strictly ascending, at most 64, each of an attached endpoint
abbrev pub may_address : List OwnAddress → List Port → Bool
may_address list ports = ascends list && (nat_le (length list) 64 && list_all (λ a. is_attached a.0 ports) list)

-- the addresses without those of an endpoint
abbrev pub addresses_without : EpId → List OwnAddress → List OwnAddress
addresses_without at list = filter (λ a. not (a.0.0 == at.0)) list
