-- Until when nothing ends that routers keep or see, one router after another.
use Rattle.hn_base.proofs.Names.{◌≡◌, ◌↔◌, ℕ, ◌+◌, ◌<◌, IsTrue, List, [], ◌∷◌, ◌++◌, All, All-contains, All-more, All-nil, Contains, Contains-append_left, Contains-append_right, length, take, take_more}
use Rattle.hn_base.proofs.Names.{get_or, min, sym, subst, arith}
use Rattle.hn_base.proofs.AscendingLists.{Contains-head}
use Rattle.hn_base.proofs.Elements.{all_of}
use Rattle.hn_rules.specs.Lasting.{IsLastingUntil, LastsBefore}
use Rattle.hn_world.specs.declared.member.Member.{Member}
use Rattle.hn_calm.specs.Home.{LastBefore}

-- a router lasts, if it runs
abbrev pub Lasts : ℕ → Member → Type 0
Lasts until m = IsTrue m.running → IsLastingUntil until m.router

pub last_begun : (r : Member) (first : ℕ) → LastsBefore r.router first → LastBefore r [] first
last_begun r first own until = (λ before. ((own until).0 before, All-nil (Lasts until)), λ (lasts, none). (own until).1 lasts)

-- what one more router changes
abbrev pub OneMore : Member → ℕ → ℕ → Type 0
OneMore m first n = (until : ℕ) → (until < n) ↔ ((until < first) × Lasts until m)

pub one_running : (m : Member) (first own n : ℕ) → IsTrue m.running → LastsBefore m.router own → n ≡ min first own → OneMore m first n
one_running m first own n runs last is until = (
  λ before. (omega (arith, before, is), λ running. (last until).0 (omega (arith, before, is))),
  λ (soon, lasts). let less = (last until).1 (lasts runs) in omega (arith, soon, less, is),
)

pub one_stopped : (m : Member) (first n : ℕ) → (IsTrue m.running → ⊥) → n ≡ first → OneMore m first n
one_stopped m first n stopped is until = (λ before. (omega (arith, before, is), λ running. absurd (stopped running)), λ (soon, any). omega (arith, soon, is))

pub last_more : (r : Member) (ms : List Member) (i : ℕ) (m d : Member) (first n : ℕ) → i < length ms → m ≡ get_or ms i d → LastBefore r (take i ms) first
    → OneMore m first n → LastBefore r (take (i + 1) ms) n
last_more r ms i m d first n within is so_far one until = (
  λ before.
      let here = (one until).0 before in
      let rest = (so_far until).0 here.0 in
      (rest.0, All-more (Lasts until) ms i d within rest.1 (subst (Lasts until) is here.1)),
  λ (own, all). (one until).1 ((so_far until).1 (own, front all), last all),
)
  where
    more : take (i + 1) ms ≡ take i ms ++ get_or ms i d ∷ []
    more = take_more ms i d within

    there : (x : Member) → Contains (take i ms ++ get_or ms i d ∷ []) x → Contains (take (i + 1) ms) x
    there x of = subst (λ (xs : List Member). Contains xs x) (sym more) of

    front : All (Lasts until) (take (i + 1) ms) → All (Lasts until) (take i ms)
    front all =
        all_of (Lasts until) (take i ms) (λ x of. All-contains (Lasts until) (take (i + 1) ms) x all (there x (Contains-append_left (take i ms) (get_or ms i d ∷ []) x of)))

    last : All (Lasts until) (take (i + 1) ms) → Lasts until m
    last all =
        subst (Lasts until) (sym is) (All-contains (Lasts until) (take (i + 1) ms) (get_or ms i d) all
        (there (get_or ms i d) (Contains-append_right (take i ms) (get_or ms i d ∷ []) (get_or ms i d) (Contains-head (get_or ms i d) []))))
