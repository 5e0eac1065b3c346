-- What the lists of a router say of it.
use Rattle.hn_base.proofs.Names.{◌≡◌, ◌≢◌, ◌∙◌, ◌↔◌, ◌<◌, ◌≤◌, ℕ, Bool, true, false, not, IsTrue, List, [], ◌∷◌, Contains, Option, Some, None, is_some, refl, sym, ap, subst, inl, inr, ⊎_elim, arith}
use Rattle.hn_base.proofs.Names.{cases_Bool, cases_lt, false≢true, not-true, not_from_Decides, PlainPrefix}
use Rattle.hn_ula.proofs.Names.{NodeId, Contains-head, nothing_in, Delegated, PlainView, seen_by, State, IsOwnOf, IsGreatestOwn, MustGo, HasTwo, IsToAnnounce, AreGenerated, HasOtherOf, HasPrefixAbove}
use Rattle.hn_ula.proofs.Names.{HasForeign, HasGreater, IsGreatestFound, IsOwnFound, Generated}
use Rattle.hn_base.proofs.Prefixes.{is_one_prefix, prefix_decided}
use Rattle.hn_deleg.specs.Used.{AreUsable}
use Rattle.hn_deleg.specs.Laws.{UsableIsUnique}
use Rattle.hn_ula.specs.Ula.{IsGenerated, IsForeign}

-- ---- a foreign prefix

pub foreign_of : (view : PlainView) (used : List Delegated) → UsableIsUnique → AreUsable view used → HasForeign used ↔ IsForeign view
foreign_of view used unique are = (
  λ h. record { usable = used; are_usable = are; one = h.one; used = h.among; outside = h.foreign.outside; preferred = h.foreign.preferred },
  λ h. let same : h.usable ≡ used = unique view h.usable used h.are_usable are in
      record {
        one = h.one;
        among = subst (λ (l : List Delegated). Contains l h.one) same h.used;
        foreign = record { preferred = h.preferred; outside = h.outside };
      },
)

-- ---- the router's own

pub own_of : (s : State) (list : List Generated) (found : Option PlainPrefix) → AreGenerated (seen_by s) list → IsGreatestFound list s.id found → IsOwnFound s found
own_of s list None are none = λ p h. none p ((are (record { node = s.id; prefix = p })).1 h)
own_of s list (Some p) are g = record {
  own = (are (record { node = s.id; prefix = p })).0 g.has;
  greatest = λ q h. g.greatest q ((are (record { node = s.id; prefix = q })).1 h);
}

-- ---- the first line

pub above_of : (s : State) (list : List Generated) → AreGenerated (seen_by s) list
    → HasPrefixAbove list s.id ↔ ((node : ℕ) × (p : PlainPrefix) × (s.id.0 < node) × IsGenerated (seen_by s) node p)
above_of s list are = (
  λ h. (h.one.node.0, h.one.prefix, h.above, (are h.one).0 h.among),
  λ (node, p, above, is). record {
    one = record { node = record { 0 = node }; prefix = p };
    among = (are (record { node = record { 0 = node }; prefix = p })).1 is;
    above = above;
  },
)

-- ---- the second line

pub two_of : (s : State) (list : List Generated) (p : PlainPrefix) → AreGenerated (seen_by s) list → IsGreatestOwn s p → HasOtherOf list s.id p ↔ HasTwo s
two_of s list p are g = (there, back)
  where
    own_other : HasOtherOf list s.id p → (q : PlainPrefix) × IsOwnOf s q × (q ≢ p)
    own_other h = (
      h.one.prefix,
      subst (λ (id : NodeId). IsGenerated (seen_by s) id.0 h.one.prefix) h.node_is ((are h.one).0 h.among),
      h.other,
    )

    there : HasOtherOf list s.id p → HasTwo s
    there h = let other = own_other h in (other.0, p, other.1, g.own, other.2)

    other_of : (q : PlainPrefix) → IsOwnOf s q → q ≢ p → HasOtherOf list s.id p
    other_of q own other = record {
      one = record { node = s.id; prefix = q };
      among = (are (record { node = s.id; prefix = q })).1 own;
      node_is = refl;
      other = other;
    }

    back : HasTwo s → HasOtherOf list s.id p
    back (q, r, own_q, own_r, apart) =
        elim (cases_Bool (is_one_prefix q p)) [
          | inl same ↦ let q_is : q ≡ p = (prefix_decided q p).0 same in
              other_of r own_r (λ r_is. apart (q_is ∙ sym r_is))
          | inr other ↦ other_of q own_q (not_from_Decides (is_one_prefix q p) (prefix_decided q p) other)
        ]

pub none_of_none : (s : State) → ((p : PlainPrefix) → ¬ IsOwnOf s p) → ¬ HasTwo s
none_of_none s none two = none two.0 two.2

-- ---- the third line

pub nobody_of : (s : State) (list : List Generated) → AreGenerated (seen_by s) list → (list ≡ []) ↔ ((node : ℕ) (p : PlainPrefix) → ¬ IsGenerated (seen_by s) node p)
nobody_of s [] are = (
  λ h node p is. nothing_in (record { node = record { 0 = node }; prefix = p }) ((are (record { node = record { 0 = node }; prefix = p })).1 is),
  λ h. refl,
)
nobody_of s (g ∷ gs) are = (
  λ h. absurd cc,
  λ h. absurd (h g.node.0 g.prefix ((are g).0 (Contains-head g gs))),
)

pub greater_of : (reach : List NodeId) (own : NodeId) → (¬ HasGreater reach own) ↔ ((id : NodeId) → Contains reach id → id.0 ≤ own.0)
greater_of reach own = (
  λ none id there. elim (cases_lt own.0 id.0) [
    | inl greater ↦ absurd (none (record { one = id; among = there; greater = greater }))
    | inr not_greater ↦ omega arith
  ],
  λ all h. let most = all h.one h.among in let more = h.greater in omega arith,
)

-- ---- answers

-- a test that fails, of what is not so
pub fails_of : (b : Bool) (P : Type 0) → b ≡ false → ¬ P → IsTrue b ↔ P
fails_of b P fails not = (λ h. absurd (false≢true (sym fails ∙ h)), λ h. absurd (not h))

some_own : (s : State) (own : Option PlainPrefix) → IsOwnFound s own → is_some own ≡ true → (p : PlainPrefix) × IsOwnOf s p
some_own s None found is = absurd (false≢true is)
some_own s (Some p) found is = (p, found.own)

none_own : (s : State) (own : Option PlainPrefix) → IsOwnFound s own → is_some own ≡ false → (p : PlainPrefix) → ¬ IsOwnOf s p
none_own s None found is = found
none_own s (Some p) found is = absurd (false≢true (sym is))

-- the router has one if and only if one was found
pub has_own : (s : State) (own : Option PlainPrefix) → IsOwnFound s own → IsTrue (is_some own) ↔ ((p : PlainPrefix) × IsOwnOf s p)
has_own s own found = (
  λ is. some_own s own found is,
  λ h. elim (cases_Bool (is_some own)) [
    | inl some ↦ some
    | inr none ↦ absurd (none_own s own found none h.0 h.1)
  ],
)

pub no_line : (s : State) (own : Option PlainPrefix) → IsOwnFound s own → is_some own ≡ false → ¬ MustGo s
no_line s own found none m = none_own s own found none m.one m.has

-- where there is no foreign prefix, a greater node makes it go
pub by_above : (s : State) (list : List Generated) (own : Option PlainPrefix) (foreign above : Bool) → AreGenerated (seen_by s) list → IsOwnFound s own → is_some own ≡ true
    → (IsTrue foreign ↔ IsForeign (seen_by s)) → foreign ≡ false → (IsTrue above ↔ HasPrefixAbove list s.id) → IsTrue above ↔ MustGo s
by_above s list own foreign above are found some foreign_is none above_is =
    let one = some_own s own found some in (
      λ h. record { one = one.0; has = one.1; because = inr ((above_of s list are).0 (above_is.0 h)) },
      λ m. ⊎_elim (λ (better : IsForeign (seen_by s)). absurd (false≢true (sym none ∙ foreign_is.1 better)))
          (λ greater. above_is.1 ((above_of s list are).1 greater))
          m.because,
    )

pub by_other : (s : State) (list : List Generated) (own : Option PlainPrefix) (p : PlainPrefix) (other : Bool) → AreGenerated (seen_by s) list → IsOwnFound s own → own ≡ Some p
    → (IsTrue other ↔ HasOtherOf list s.id p) → IsTrue other ↔ HasTwo s
by_other s list own p other are found is other_is =
    let g : IsGreatestOwn s p = subst (IsOwnFound s) is found in
    let same = two_of s list p are g in
    (λ h. same.0 (other_is.0 h), λ h. other_is.1 (same.1 h))

pub by_none : (s : State) (own : Option PlainPrefix) → IsOwnFound s own → own ≡ None → ¬ HasTwo s
by_none s own found is = none_of_none s (subst (IsOwnFound s) is found)

-- where there is neither a generated nor a foreign prefix, the greatest announces one
pub by_greater : (s : State) (list : List Generated) (foreign greater : Bool) → AreGenerated (seen_by s) list → (IsTrue foreign ↔ IsForeign (seen_by s))
    → (list ≡ []) × (foreign ≡ false) → (IsTrue greater ↔ HasGreater s.reach s.id) → IsTrue (not greater) ↔ IsToAnnounce s
by_greater s list foreign greater are foreign_is neither greater_is = (
  λ h. record {
    none = (nobody_of s list are).0 neither.0;
    no_better = λ better. false≢true (sym neither.1 ∙ foreign_is.1 better);
    greatest = (greater_of s.reach s.id).0 (λ one. false≢true (sym (not-true greater h) ∙ greater_is.1 one));
  },
  λ a. elim (cases_Bool greater) [
    | inl one ↦ absurd ((greater_of s.reach s.id).1 a.greatest (greater_is.0 one))
    | inr none ↦ ap not none
  ],
)

pub by_neither : (s : State) (list : List Generated) (foreign : Bool) → AreGenerated (seen_by s) list → (IsTrue foreign ↔ IsForeign (seen_by s))
    → ¬ ((list ≡ []) × (foreign ≡ false)) → ¬ IsToAnnounce s
by_neither s list foreign are foreign_is some a =
    elim (cases_Bool foreign) [
      | inl is ↦ a.no_better (foreign_is.0 is)
      | inr is ↦ some ((nobody_of s list are).1 a.none, is)
    ]
