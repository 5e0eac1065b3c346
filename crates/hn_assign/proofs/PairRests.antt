-- A pair at rest, by what it is judged by.
use Rattle.hn_base.proofs.Names.{◌≡◌, ◌↔◌, ℕ, Bool, true, false, not, IsTrue, IsSome, is_some, Option, None, Some, refl, sym, ap, subst, inl, inr, same_Some}
use Rattle.hn_assign.proofs.Names.{Advertised, Assigned, IsAhead, RestsWith, PlainScene, IsBestFor, HasNothingToDo}
use Rattle.std.specs.Bool.{MatchBool}
use Rattle.hn_assign.specs.Rest.{StaysAlone, StaysAs, StaysBeside}
use Rattle.hn_assign.specs.Unassigned.{HasFree}
use Rattle.hn_assign.proofs.SameAdvertised.{best_one}

-- ---- without an assignment

busy : (at : PlainScene) → HasFree at → ¬ (HasNothingToDo at)
busy at has (inl unwanted) = unwanted has.wanted
busy at has (inr none) = none has.prefix has.free

pub idle : (at : PlainScene) (has_free : Bool) → IsBestFor at None → MatchBool has_free (HasFree at) (HasNothingToDo at) → IsTrue (not has_free) ↔ RestsWith at None
idle at true none said = (λ yes. absurd cc, λ rest. absurd (busy at said rest.nothing_to_do))
idle at false none said = (λ yes. record { no_best = none; nothing_to_do = said }, λ rest. refl)

pub not_idle : (at : PlainScene) (best : Advertised) → IsBestFor at (Some best) → ¬ (RestsWith at None)
not_idle at best is rest = rest.no_best best is.candidate

-- ---- without a best prefix

its_priority : (o : Option ℕ) → IsSome o → (priority : ℕ) × (o ≡ Some priority)
its_priority (Some p) some = (p, refl)
its_priority None some = absurd (cc)

is_published : (o : Option ℕ) (p : ℕ) → o ≡ Some p → IsSome o
is_published o p is = ap (λ (x : Option ℕ). is_some x) is

stays : (at : PlainScene) (c : Assigned) → IsBestFor at None → RestsWith at (Some c) → StaysAlone at c
stays at c none (inl h) = (is_published c.published h.published.0 h.published.1, h.valid)
stays at c none (inr (inl h)) = absurd (none h.best h.is_best.candidate)
stays at c none (inr (inr h)) = absurd (none h.best h.is_best.candidate)

pub alone : (at : PlainScene) (c : Assigned) (answer : Bool) → IsBestFor at None → IsTrue answer ↔ StaysAlone at c → IsTrue answer ↔ RestsWith at (Some c)
alone at c answer none said = (
  λ yes. let h = said.0 yes in inl (record { no_best = none; published = its_priority c.published h.0; valid = h.1 }),
  λ rest. said.1 (stays at c none rest),
)

-- ---- with a best prefix

one_best : (at : PlainScene) (x y : Advertised) → IsBestFor at (Some x) → IsBestFor at (Some y) → x ≡ y
one_best at x y is_x is_y = same_Some x y (best_one at.advertised at.own at.wish.common at.wish.delegated (Some x) (Some y) is_x is_y)

rests : (at : PlainScene) (c : Assigned) (best : Advertised) (o : Option ℕ) → IsBestFor at (Some best) → c.published ≡ o → StaysAs at c best o → RestsWith at (Some c)
rests at c best (Some p) is o_is h =
    inr (inl (record { best = best; is_best = is; priority = h.0.priority; published = h.0.published; above = h.0.above; valid = h.1 }))
rests at c best None is o_is h = inr (inr (record { best = best; is_best = is; unpublished = o_is; same = h }))

stays_so : (at : PlainScene) (c : Assigned) (best : Advertised) → IsBestFor at (Some best) → RestsWith at (Some c) → StaysBeside at c best
stays_so at c best is (inl h) = absurd (h.no_best best is.candidate)
stays_so at c best is (inr (inl h)) =
    let same : h.best ≡ best = one_best at h.best best h.is_best is in
    let ahead : IsAhead at best c = subst (λ (b : Advertised). IsAhead at b c) same (record { priority = h.priority; published = h.published; above = h.above }) in
    subst (λ (o : Option ℕ). StaysAs at c best o) (sym h.published) (ahead, h.valid)
stays_so at c best is (inr (inr h)) =
    let same : h.best ≡ best = one_best at h.best best h.is_best is in
    let prefix : c.prefix ≡ best.prefix = subst (λ (b : Advertised). c.prefix ≡ b.prefix) same h.same in
    subst (λ (o : Option ℕ). StaysAs at c best o) (sym h.unpublished) prefix

pub beside : (at : PlainScene) (c : Assigned) (best : Advertised) (answer : Bool) → IsBestFor at (Some best) → IsTrue answer ↔ StaysBeside at c best → IsTrue answer ↔ RestsWith at (Some c)
beside at c best answer is said = (λ yes. rests at c best c.published is refl (said.0 yes), λ rest. said.1 (stays_so at c best is rest))
