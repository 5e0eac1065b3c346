-- The same network at different moments.
use Rattle.hn_base.proofs.Names.{◌≡◌, ◌∙◌, ℕ, List, [], ◌∷◌, Contains, map, refl, sym, ap, subst, nat_cmp, IsStrictlySortedBy}
use Rattle.hn_data.proofs.Names.{Entry, ids_of}
use Rattle.hn_data.specs.Later.{aged_entry}
use Rattle.hn_data.specs.Laws.{LaterIsANetwork}

same_ids : (time : ℕ) (nodes : List Entry) → ids_of (map (aged_entry time) nodes) ≡ ids_of nodes
same_ids time [] = refl
same_ids time (n ∷ nodes) = ap (λ (ids : List ℕ). n.id.0 ∷ ids) (same_ids time nodes)

pub later_network : LaterIsANetwork
later_network before after later network =
    let same : ids_of after.nodes ≡ ids_of before.nodes = ap ids_of later.nodes ∙ same_ids later.time before.nodes in
    let here : Contains (ids_of before.nodes) after.own = subst (Contains (ids_of before.nodes)) (sym later.own) network.own_is_there in
    record {
      ascending = subst (IsStrictlySortedBy nat_cmp) (sym same) network.ascending;
      own_is_there = subst (λ (ids : List ℕ). Contains ids after.own) (sym same) here;
    }
