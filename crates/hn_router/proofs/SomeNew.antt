-- There is a new router of each identifier.
use Rattle.hn_base.proofs.Names.{◌≡◌, ℕ, List, [], ◌∷◌, false, None, refl, arith, All-nil, IsPrefix}
use Rattle.hn_router.proofs.Names.{Caps, NodeId, OwnItems, OwnPrefix, no_pairs, IsRangedAddress, State, network_state_hash}
use Rattle.hn_data.specs.declared.said.AssignedPrefix.{AssignedPrefix}
use Rattle.hn_own.specs.Laws.{OwnDataExists}
use Rattle.hn_own.specs.Own.{AreFew, PlainData}
use Rattle.hn_own.specs.Ranges.{AreRanged, IsRangedAssigned, IsRangedLink, items_from}
use Rattle.hn_router.specs.Laws.{NewExists}

abbrev no_capability : Caps
no_capability = record { m = 0; p = 0; h = 0; l = 0; m_in_range = omega arith; p_in_range = omega arith; h_in_range = omega arith; l_in_range = omega arith }

-- the own items of a router without anything
abbrev bare : OwnItems
bare = items_from no_capability [] [] no_pairs []

bare_are_few : AreFew bare
bare_are_few = record {
  links = omega arith;
  delegated = omega arith;
  assigned = omega arith;
  priority = All-nil (λ (a : AssignedPrefix). a.priority ≡ 2);
  addresses = omega arith;
}

bare_are_ranged : AreRanged bare
bare_are_ranged = record {
  links = All-nil IsRangedLink;
  delegated = All-nil (λ (p : OwnPrefix). IsPrefix p.prefix);
  assigned = All-nil IsRangedAssigned;
  addresses = All-nil IsRangedAddress;
}

-- with that node data, and with a hash
abbrev beginning : NodeId → ℕ → ℕ → PlainData → List ℕ → State
beginning id limit now own net = record {
  id = id;
  number = 1;
  moment = now;
  caps = no_capability;
  own = own;
  delegated = [];
  held = no_pairs;
  claimed = false;
  private = None;
  ports = [];
  addresses = [];
  table = record { limit = limit; entries = [] };
  reach = id ∷ [];
  net = net;
  due = 0;
}

pub some_new : OwnDataExists → NewExists
some_new exists id limit now =
    let (own, is, same, born) = exists bare now bare_are_few bare_are_ranged in (
      beginning id limit now own (network_state_hash (beginning id limit now own [])),
      record {
        id_is = refl;
        number_is = refl;
        moment_is = refl;
        caps_are = refl;
        own_is = is;
        born_is = born;
        items_are = same;
        no_prefixes = refl;
        nothing_held = refl;
        unclaimed = refl;
        no_private = refl;
        no_addresses = refl;
        ports_are = refl;
        table_is = refl;
        reach_is = refl;
        net_is = refl;
        due_is = refl;
      },
    )
