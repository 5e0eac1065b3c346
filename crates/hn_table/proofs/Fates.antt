-- What becomes of a delegated prefix.
use Rattle.hn_base.proofs.Names.{◌≡◌, ◌∙◌, ◌<◌, ◌≤◌, ℕ, List, [], ◌∷◌, length, get_or, Contains, inl, inr, refl, sym, ap, arith, get_or-map, get_or_default, length-map, PlainPrefix}
use Rattle.hn_table.proofs.Names.{HasDelegation, HasVersion, PlainView, Delegation, Entry, remaining, IsAnnouncedPrefix, AreUsable, IsOutermost, prefixes_of, Delegated, IsPastTheUsed}
use Rattle.std.specs.List.{Any}
use Rattle.hn_table.specs.Fate.{IsAnnouncedCandidate}

-- the prefix of a delegated prefix
abbrev prefix_of : Delegated → PlainPrefix
prefix_of u = u.prefix

-- a prefix is among those of a list if and only if one of the list has it
pub among_prefixes : (used : List Delegated) (p : PlainPrefix) → Any (λ u. u.prefix ≡ p) used → Contains (prefixes_of used) p
among_prefixes used p (k, u, within, at, is) =
    let same = length-map used prefix_of in
    (k, omega (arith, same, within), get_or-map prefix_of used k u p within ∙ ap prefix_of at ∙ is)

pub from_prefixes : (used : List Delegated) (p : PlainPrefix) → Contains (prefixes_of used) p → Any (λ u. u.prefix ≡ p) used
from_prefixes [] p (k, within, is) = absurd (omega (arith, within))
from_prefixes (u ∷ us) p (k, within, is) =
    let list : List Delegated = u ∷ us in
    let same = length-map list prefix_of in
    let inside : k < length list = omega (arith, same, within) in
    let this : Delegated = get_or list k u in
    (k, this, inside, get_or_default list k this u inside, sym (get_or-map prefix_of list k u p inside) ∙ is)

-- what is not nothing is more
pub some_left : (n left : ℕ) → n ≡ left → ¬ (n ≡ 0) → 0 < left
some_left n left is some = omega arith

-- a delegation of a node of the view that is live and of at most 64 bits is a candidate
pub candidate_of : (view : PlainView) (node : Entry) (d : Delegation) → Contains view.nodes node → HasVersion node.body → HasDelegation node.body d → 0 < remaining node.age d.valid → d.prefix.len ≤ 64
    → IsAnnouncedCandidate view node d
candidate_of view node d seen version said live short = record {
  announced = record { reachable = seen; version = version; said = said; live = live };
  short = short;
}

-- and so its prefix is announced
pub announced_prefix : (view : PlainView) (node : Entry) (d : Delegation) → IsAnnouncedCandidate view node d → IsAnnouncedPrefix view d.prefix
announced_prefix view node d is = record { short = is.short; node = node; delegation = d; announced = is.announced; is_it = refl }

-- one that is inside no other and is not used comes after those that are
pub past_of : (view : PlainView) (used : List Delegated) (node : Entry) (d : Delegation) → AreUsable view used → IsAnnouncedCandidate view node d → IsOutermost view d.prefix
    → ¬ Contains (prefixes_of used) d.prefix → IsPastTheUsed view used node d
past_of view used node d usable candidate outermost not_among =
    elim (usable.first d.prefix outermost) [
      | inl among ↦ absurd (not_among among)
      | inr full ↦ record { candidate = candidate; outermost = outermost; not_among = not_among; full = full.0; after = full.1 }
    ]
