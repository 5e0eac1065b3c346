-- What unchanged nodes advertised before, with what the others advertise now, is what is advertised now.
use Rattle.hn_base.proofs.Names.{◌≡◌, ◌≢◌, ◌↔◌, ◌⊎◌, ◌∙◌, ℕ, List, [], ◌∷◌, Contains, Option, None, Some, refl, sym, ap, subst, inl, inr, ⊎_elim, nat_cmp, nat_cmp_total, IsStrictlySortedBy, HaveSame}
use Rattle.hn_base.proofs.AscendingLists.{Contains-head, exact_nat, sorted_parts}
use Rattle.hn_base.proofs.AtKey.{has_some}
use Rattle.hn_base.proofs.Keys.{same_node}
use Rattle.hn_base.proofs.PartsAtPlaces.{one_of_ascending}
use Rattle.hn_base.specs.Ascending.{HasAt}
use Rattle.hn_base.specs.declared.ids.NodeId.{NodeId}
use Rattle.hn_data.specs.View.{PlainView, ids_of}
use Rattle.hn_data.specs.declared.view.Entry.{Entry}
use Rattle.hn_assign.specs.Changed.{HasNodeOf, SaidSame, AreChanged}
use Rattle.hn_assign.specs.Gathered.{IsOfOther, IsOwn, AreAdvertised}
use Rattle.hn_assign.specs.Renewed.{HasOfOthers, HasOfUnchanged, IsOfChanged, IsOfUnchanged, IsAnew}
use Rattle.hn_assign.specs.declared.advertised.Advertised.{Advertised}
use Rattle.hn_pair.specs.declared.assigned.Assigned.{Assigned}
use Rattle.hn_assign.proofs.Alikes.{back, of_other}
use Rattle.hn_assign.proofs.Names.{nothing_in}

-- an index of what is advertised has of other nodes what they advertise
pub has_of_others : (view : PlainView) (assigned : List Assigned) (known : List Advertised) → AreAdvertised view assigned known → HasOfOthers view.own view.nodes known
has_of_others view assigned known are a another = (
  λ h. ⊎_elim (λ e. e) (λ c. absurd (another (ap (λ (x : Advertised). x.key.node.0) c.2.is))) ((are a).0 h),
  λ e. (are a).1 (inl e),
)

-- in ascending order nodes with one identifier are one
one_entry : (nodes : List Entry) (x y : Entry) → IsStrictlySortedBy nat_cmp (ids_of nodes) → Contains nodes x → Contains nodes y → x.id ≡ y.id → x ≡ y
one_entry nodes x y up here there same =
    one_of_ascending (λ (n : Entry). n.id.0) nat_cmp nat_cmp_total nodes ((sorted_parts (λ (n : Entry). n.id.0) nat_cmp nodes).1 up) x y here there (ap (λ (id : NodeId). id.0) same)

-- an identifier is among some, or is not
among_or_not : (ids : List NodeId) (id : NodeId) → Contains ids id ⊎ (¬ (Contains ids id))
among_or_not ids id = by_had (has_some (λ (i : NodeId). i.0) nat_cmp nat_cmp_total exact_nat id.0 ids)
  where
    by_had : (o : Option NodeId) × HasAt (λ (i : NodeId). i.0) id.0 o ids → Contains ids id ⊎ (¬ (Contains ids id))
    by_had (Some x, has) = inl (subst (Contains ids) (same_node x id has.1) has.0)
    by_had (None, none) = inr (λ there. none id there refl)

-- where the own node alone changed, all that others advertise still holds
pub of_own : (own : NodeId) (nodes : List Entry) (changed : List NodeId) (known : List Advertised) → changed ≡ own ∷ [] → HasOfOthers own.0 nodes known → HasOfUnchanged own.0 nodes changed known
of_own own nodes changed known is has a not =
    has a (λ same. not (subst (λ (ids : List NodeId). Contains ids a.key.node) (sym is) (subst (Contains (own ∷ [])) (same_node own a.key.node (sym same)) (Contains-head own []))))

module _ (own : NodeId) (before after : List Entry) (changed : List NodeId) (known : List Advertised)
    (up : IsStrictlySortedBy nat_cmp (ids_of before)) (has : HasOfOthers own.0 before known) (are : AreChanged own before after changed) where
  another : (a : Advertised) → ¬ (Contains changed a.key.node) → a.key.node.0 ≢ own.0
  another a not is = not (subst (Contains changed) (same_node own a.key.node (sym is)) are.own_is_there)

  -- what an unchanged node advertised, it advertises still
  still : (a : Advertised) → ¬ (Contains changed a.key.node) → Contains known a → (entry : Entry) × Contains after entry × IsOfOther own.0 entry a
  still a not h =
      let e = (has a (another a not)).0 h in
      let id : a.key.node ≡ e.0.id = e.2.says.node in
      let there : HasNodeOf after e.0 =
      ⊎_elim (λ (gone : Contains changed e.0.id). absurd (not (subst (Contains changed) (sym id) gone))) (λ (t : HasNodeOf after e.0). t) (are.gone e.0 e.1) in
      let same : SaidSame before there.0 =
      ⊎_elim (λ (other : Contains changed there.0.id). absurd (not (subst (Contains changed) (there.2 ∙ sym id) other))) (λ (s : SaidSame before there.0). s) (are.other there.0 there.1) in
      let one : e.0 ≡ same.0 = one_entry before e.0 same.0 up e.1 same.1 (sym there.2 ∙ same.2.id) in
      (there.0, there.1, of_other own.0 same.0 there.0 a same.2 (subst (λ (x : Entry). IsOfOther own.0 x a) one e.2))

  -- and what it advertises was known
  was_known : (a : Advertised) (entry : Entry) → ¬ (Contains changed a.key.node) → Contains after entry → IsOfOther own.0 entry a → Contains known a
  was_known a entry not there other =
      let same : SaidSame before entry =
      ⊎_elim (λ (c : Contains changed entry.id). absurd (not (subst (Contains changed) (sym other.says.node) c))) (λ (s : SaidSame before entry). s) (are.other entry there) in
      (has a (another a not)).1 (same.0, same.1, of_other own.0 entry same.0 a (back same.0 entry same.2) other)

  pub of_unchanged : HasOfUnchanged own.0 after changed known
  of_unchanged a not = (still a not, λ e. was_known a e.0 not e.1 e.2)

-- what a node advertises that is one of the changed ones
pub of_changed : (own : ℕ) (changed : List NodeId) (entry : Entry) (old : List Advertised) (a : Advertised) → Contains changed entry.id
    → (Contains old a ⊎ IsOfOther own entry a) ↔ (Contains old a ⊎ IsOfChanged own changed entry a)
of_changed own changed entry old a among = (
  ⊎_elim (λ o. inl o) (λ h. inr (record { is_changed = among; of_other = h })),
  ⊎_elim (λ o. inl o) (λ h. inr h.of_other),
)

-- what changed nodes advertise, and what the router itself does
pub anew_all : (view : PlainView) (changed : List NodeId) (assigned : List Assigned) (none others both all : List Advertised) (a : Advertised) → none ≡ []
    → Contains others a ↔ (Contains none a ⊎ ((entry : Entry) × Contains view.nodes entry × IsOfChanged view.own changed entry a))
    → Contains both a ↔ (Contains others a ⊎ ((c : Assigned) × Contains assigned c × IsOwn view.own c a)) → HaveSame all both → Contains all a ↔ IsAnew view changed assigned a
anew_all view changed assigned none others both all a is first second same = (
  λ h. ⊎_elim (λ o. ⊎_elim (λ n. absurd (nothing_in a (subst (λ (xs : List Advertised). Contains xs a) is n))) (λ e. inl e) (first.0 o)) (λ c. inr c) (second.0 ((same a).0 h)),
  ⊎_elim (λ e. (same a).1 (second.1 (inl (first.1 (inr e))))) (λ c. (same a).1 (second.1 (inr c))),
)

-- that, and what is known of unchanged nodes, is what is advertised
pub renewed_advertised : (view : PlainView) (changed : List NodeId) (known fresh all : List Advertised) (assigned : List Assigned)
    → HasOfUnchanged view.own view.nodes changed known → ((a : Advertised) → Contains fresh a ↔ IsAnew view changed assigned a)
    → ((a : Advertised) → Contains all a ↔ (Contains fresh a ⊎ ((k : Advertised) × Contains known k × IsOfUnchanged changed k a))) → AreAdvertised view assigned all
renewed_advertised view changed known fresh all assigned has fresh_are all_are a = (
  λ h. ⊎_elim (λ f. ⊎_elim (λ e. inl (e.0, e.1, e.2.of_other)) (λ c. inr c) ((fresh_are a).0 f))
      (λ k. inl ((has a k.2.node).0 (subst (Contains known) k.2.is k.1))) ((all_are a).0 h),
  ⊎_elim
      (λ e. ⊎_elim (λ (among : Contains changed e.0.id). (all_are a).1 (inl ((fresh_are a).1 (inl (e.0, e.1, record { is_changed = among; of_other = e.2 })))))
      (λ (not : ¬ (Contains changed e.0.id)).
      let none : ¬ (Contains changed a.key.node) = λ h. not (subst (Contains changed) e.2.says.node h) in
      (all_are a).1 (inr (a, (has a none).1 e, record { is = refl; node = none })))
      (among_or_not changed e.0.id))
      (λ c. (all_are a).1 (inl ((fresh_are a).1 (inr c)))),
)
