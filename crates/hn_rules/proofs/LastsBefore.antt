-- The moment before which what a router keeps and sees lasts.
use Rattle.hn_base.proofs.Names.{◌≡◌, ◌↔◌, ℕ, ◌<◌, ◌≤◌, ◌+◌, ◌-◌, ◌^◌, true, false, List, [], ◌∷◌, ◌++◌, None, All, length, take, get_or, inl, inr}
use Rattle.hn_base.proofs.Names.{sym, subst, arith, cases_lt, false≢true, false_from_ne_true, take_more, All-contains, All-more, Contains, Contains-append_left, Contains-append_right}
use Rattle.hn_base.proofs.Names.{IsSooner, ◌∙◌, ◌⊎◌}
use Rattle.hn_rules.proofs.Names.{Contains-head, all_of, HeldNode, IsLifetimeEnd, IsOwnEnd, OwnPrefix, Stored, State, seen_by}
use Rattle.hn_own.specs.Laws.{EndingIsAMoment}
use Rattle.hn_own.specs.OwnPrefixes.{has_ended_one}
use Rattle.hn_rules.proofs.RefreshChangesNothing.{LeadsOn}
use Rattle.hn_rules.specs.Lasting.{LastsBefore}
use Rattle.hn_rules.specs.Nodes.{age_at}

-- until each moment before n, and no other, P holds, among those before `best`
abbrev pub Cuts : (ℕ → Type 0) → ℕ → ℕ → Type 0
Cuts P best n = (until : ℕ) → (until < n) ↔ ((until < best) × P until)

-- P stands until the first of some moments
pub cut_by_sooner : (P : ℕ → Type 0) (now best n : ℕ) → IsSooner P now best n → Cuts (λ until. (m : ℕ) → P m → now < m → until < m) best n
cut_by_sooner P now best n h until = (
  λ before. (let most = h.at_most in omega (arith, before, most), λ m p after. let first = h.least m p after in omega (arith, before, first)),
  λ (soon, ends). elim h.is [ inl same ↦ omega (arith, soon, same) | inr (p, after) ↦ ends n p after ],
)

-- ---- node data

-- paths lead on from a node with these data, if it is not lost
abbrev pub Leads : Stored → ℕ → Type 0
Leads stored until = stored.lost ≡ None → age_at until stored < 2 ^ 32 - 2 ^ 15

-- of the nodes of a slice, as a `for` goes over them
pub cut_next : (nodes : List HeldNode) (i : ℕ) (node d : HeldNode) (best b c : ℕ) → i < length nodes → node ≡ get_or nodes i d
    → Cuts (λ until. All (LeadsOn until) (take i nodes)) best b → Cuts (Leads node.stored) b c → Cuts (λ until. All (LeadsOn until) (take (i + 1) nodes)) best c
cut_next nodes i node d best b c within is before one until = (
  λ soon.
      let here = (one until).0 soon in
      let rest = (before until).0 here.0 in
      (rest.0, All-more (LeadsOn until) nodes i d within rest.1 (subst (LeadsOn until) is here.1)),
  λ (soon, all). (one until).1 ((before until).1 (soon, front all), last all),
)
  where
    more : take (i + 1) nodes ≡ take i nodes ++ get_or nodes i d ∷ []
    more = take_more nodes i d within

    there : (x : HeldNode) → Contains (take i nodes ++ get_or nodes i d ∷ []) x → Contains (take (i + 1) nodes) x
    there x of = subst (λ (xs : List HeldNode). Contains xs x) (sym more) of

    front : All (LeadsOn until) (take (i + 1) nodes) → All (LeadsOn until) (take i nodes)
    front all = all_of (LeadsOn until) (take i nodes) (λ x of. All-contains (LeadsOn until) (take (i + 1) nodes) x all (there x (Contains-append_left (take i nodes) (get_or nodes i d ∷ []) x of)))

    last : All (LeadsOn until) (take (i + 1) nodes) → Leads node.stored until
    last all =
        subst (LeadsOn until) (sym is) (All-contains (LeadsOn until) (take (i + 1) nodes) (get_or nodes i d) all
        (there (get_or nodes i d) (Contains-append_right (take i nodes) (get_or nodes i d ∷ []) (get_or nodes i d) (Contains-head (get_or nodes i d) []))))

-- ---- own delegated prefixes

module _ (law : EndingIsAMoment) (list : List OwnPrefix) where
  pub own_cut : (best n : ℕ) → has_ended_one 0 list ≡ false → IsSooner (IsOwnEnd list) 0 best n → Cuts (λ until. has_ended_one until list ≡ false) best n
  own_cut best n none first until = (
    λ before. let (soon, ends) = (cut_by_sooner (IsOwnEnd list) 0 best n first until).0 before in (soon, false_from_ne_true (has_ended_one until list) (λ ended. none_ended ends ended)),
    λ (soon, lasts). (cut_by_sooner (IsOwnEnd list) 0 best n first until).1 (soon, λ m is after. unended lasts m is (cases_lt until m)),
  )
    where
      none_ended : ((m : ℕ) → IsOwnEnd list m → 0 < m → until < m) → has_ended_one until list ≡ true → ⊥
      none_ended ends ended =
          let (m, is, past) = (law until list).0 ended in elim (cases_lt 0 m) [
            | inl after ↦ let soon = ends m is after in omega (arith, soon, past)
            | inr zero ↦ false≢true (sym none ∙ (law 0 list).1 (m, is, zero))
          ]

      unended : has_ended_one until list ≡ false → (m : ℕ) → IsOwnEnd list m → (until < m) ⊎ (m ≤ until) → until < m
      unended lasts m is (inl before) = before
      unended lasts m is (inr past) = absurd (false≢true (sym lasts ∙ (law until list).1 (m, is, past)))

-- ---- a router

pub lasts_of_parts : (s : State) (old leads own n : ℕ) → old ≡ s.own.born + (2 ^ 32 - 2 ^ 16) → Cuts (λ until. All (LeadsOn until) s.table.entries) old leads
    → Cuts (λ until. has_ended_one until s.delegated ≡ false) leads own → IsSooner (IsLifetimeEnd (seen_by s)) s.moment own n → LastsBefore s n
lasts_of_parts s old leads own n is nodes delegated first until = (
  λ before.
      let ends = (cut_by_sooner (IsLifetimeEnd (seen_by s)) s.moment own n first until).0 before in
      let lasting = (delegated until).0 ends.0 in
      let young = (nodes until).0 lasting.0 in
      record { lasting = lasting.1; young = record { young = (let soon = young.0 in omega (arith, soon, is)); leads = young.1 }; ends = ends.1 },
  λ lasts.
      let soon : until < old = let less = lasts.young.young in omega (arith, less, is) in
      (cut_by_sooner (IsLifetimeEnd (seen_by s)) s.moment own n first until).1 ((delegated until).1 ((nodes until).1 (soon, lasts.young.leads), lasts.lasting), lasts.ends),
)
