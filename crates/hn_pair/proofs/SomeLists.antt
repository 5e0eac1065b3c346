-- Lists that cannot be missing: what is kept of wished pairs, and what there is where a pair gets something else.
use Rattle.hn_base.proofs.Names.{◌≡◌, ◌↔◌, ◌⊎◌, List, Contains, Option, IfSome, Ordering, refl, inl, inr, on, Less, Equal, Greater, recursion_from_All, Contains-get_or, Some! }
use Rattle.hn_pair.proofs.Names.{IsPart, some_then, some_part, Wish, Pair, pair_cmp, IsAscending, IsWished, Updates, KeepsWished}
use Rattle.hn_pair.proofs.AroundPair.{Sides, joined, ascending_joined, has_joined, others, greater_is_above}
use Rattle.hn_pair.proofs.Orders.{pair_exact}

module _ {A : Type 0} (key : A → Pair) where
  pub some_kept : (wishes : List Wish) (before : List A) → IsAscending key before → Some! (KeepsWished key wishes before)
  some_kept wishes before up =
      some_then (some_part (on key pair_cmp) (λ x. IsWished wishes (key x)) before up) (λ kept part none. none kept (record { ascending = part.0; those = part.1 }))

  module _ (pair : Pair) where
    -- those before a pair, and those after it
    abbrev is_before : A → Type 0
    is_before x = pair_cmp (key x) pair ≡ Less

    abbrev is_after : A → Type 0
    is_after x = pair_cmp pair (key x) ≡ Less

    sides : (before front back : List A) → IsPart (on key pair_cmp) is_before before front → IsPart (on key pair_cmp) is_after before back → Sides key pair front back
    sides before front back fronts backs = record {
      front_ascends = fronts.0;
      below = recursion_from_All is_before front (λ k d within. ((fronts.1 _).0 (Contains-get_or front k d within)).1);
      back_ascends = backs.0;
      above = recursion_from_All is_after back (λ k d within. ((backs.1 _).0 (Contains-get_or back k d within)).1);
    }

    -- what is of another pair is on one of the sides
    on_a_side : (before front back : List A) → IsPart (on key pair_cmp) is_before before front → IsPart (on key pair_cmp) is_after before back → (x : A) → ¬ (key x ≡ pair)
        → (Contains front x ⊎ Contains back x) ↔ Contains before x
    on_a_side before front back fronts backs x not = (
      λ h. elim h [ inl first ↦ ((fronts.1 x).0 first).0 | inr last ↦ ((backs.1 x).0 last).0 ],
      λ h. by_order (pair_cmp (key x) pair) refl h,
    )
      where
        by_order : (o : Ordering) → pair_cmp (key x) pair ≡ o → Contains before x → Contains front x ⊎ Contains back x
        by_order Less is h = inl ((fronts.1 x).1 (h, is))
        by_order Equal is h = absurd (not (pair_exact (key x) pair is))
        by_order Greater is h = inr ((backs.1 x).1 (h, greater_is_above (key x) pair is))

    pub some_updated : (has : Option A) (before : List A) → IsAscending key before → IfSome has (λ x. key x ≡ pair) → Some! (Updates key pair has before)
    some_updated has before up is =
        some_then (some_part (on key pair_cmp) is_before before up) (λ front fronts.
        some_then (some_part (on key pair_cmp) is_after before up) (λ back backs none.
        let both = sides before front back fronts backs in
        none (joined key front has back) (record {
          ascending = ascending_joined key pair front has back both is;
          here = has_joined key pair front has back both is;
          others = λ x not. let there = others key pair front has back x is not in let was = on_a_side before front back fronts backs x not in (λ h. was.0 (there.0 h), λ h. there.1 (was.1 h));
        })))
