-- The addresses that other nodes have, by a list of those of all nodes.
use Rattle.hn_base.proofs.Names.{◌≡◌, ◌≢◌, ◌<◌, ℕ, Bool, not, Contains, filter, refl, ap, subst, arith, eqb-true, eqb-false, not-true, not_from_false, false_from_ne_true}
use Rattle.hn_addr.proofs.Names.{NodeId, from_filter, PlainView, IsAddressOfOther, AreOthers, HasAddressAbove, Others, Taken}
use Rattle.std.proofs.Common.{◌==◌}
use Rattle.hn_base.proofs.AscendingLists.{Contains-map, Contains-from_map}
use Rattle.hn_base.proofs.Elements.{in_filter}

module _ (view : PlainView) (others : Others) (are : AreOthers view others) where
  -- ---- an address and its node

  of_listed : (t : Taken) → Contains others.taken.items t → t.node.0 ≢ view.own → IsAddressOfOther view t.node.0 t.address
  of_listed t there other =
      let given = (are.taken t).0 there in
      record {
        entry = given.one;
        reachable = given.among;
        is_it = ap (λ (id : NodeId). id.0) given.gives.makes.node_is;
        other = other;
        version = given.gives.version;
        said = given.gives.part;
        says = given.gives.says;
        of_address = given.gives.makes.address_is;
      }

  listed : (node x : ℕ) → IsAddressOfOther view node x → Contains others.taken.items (record { node = record { 0 = node }; address = x })
  listed node x is =
      (are.taken (record { node = record { 0 = node }; address = x })).1 (record {
        one = is.entry;
        among = is.reachable;
        gives = record {
          version = is.version;
          part = is.said;
          says = is.says;
          makes = record { node_is = λ i. record { 0 = is.is_it i }; address_is = is.of_address };
        };
      })

  -- ---- the addresses alone

  abbrev is_other : Taken → Bool
  is_other t = not (t.node.0 == view.own)

  -- an address that some other node has is among them
  pub other_there : (node x : ℕ) → IsAddressOfOther view node x → Contains others.addresses.items x
  other_there node x is =
      let t : Taken = record { node = record { 0 = node }; address = x } in
      (are.same x).1 (Contains-map (λ (u : Taken). u.address) (filter is_other others.taken.items) t
      (in_filter is_other others.taken.items t (listed node x is) (not_from_false (node == view.own) (false_from_ne_true (node == view.own) (λ same. is.other (eqb-true node view.own same))))))

  -- and one that is among them some other node has
  pub other_from : (x : ℕ) → Contains others.addresses.items x → (node : ℕ) × IsAddressOfOther view node x
  other_from x there =
      let (t, among, is) = Contains-from_map (λ (u : Taken). u.address) (filter is_other others.taken.items) x ((are.same x).0 there) in
      let (among_all, other) = from_filter is_other others.taken.items t among in
      (t.node.0, subst (IsAddressOfOther view t.node.0) is (of_listed t among_all (eqb-false t.node.0 view.own (not-true (t.node.0 == view.own) other))))

  -- ---- a greater node has an address

  pub above_there : (own : NodeId) (node x : ℕ) → IsAddressOfOther view node x → own.0 < node → HasAddressAbove others.taken.items own x
  above_there own node x is above =
      record { one = record { node = record { 0 = node }; address = x }; among = listed node x is; address_is = refl; above = above }

  pub above_from : (own : NodeId) (x : ℕ) → own.0 ≡ view.own → HasAddressAbove others.taken.items own x → (node : ℕ) × IsAddressOfOther view node x × (own.0 < node)
  above_from own x own_is h = (
    h.one.node.0,
    subst (IsAddressOfOther view h.one.node.0) h.address_is (of_listed h.one h.among (λ same. let above = h.above in omega (arith, same, own_is, above))),
    h.above,
  )
