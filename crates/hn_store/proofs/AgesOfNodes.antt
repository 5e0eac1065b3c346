-- Until when the data of nodes are young.
use Rattle.hn_base.proofs.Names.{ℕ, ◌≤◌, Bool, List, [], ◌∷◌, map, filter, set, nat_lt, sym, subst, arith, insert, All-append, All-cons, All-filter, All-map, All-nil, All-set, All-weaker}
use Rattle.hn_store.proofs.Names.{NodeId, Stored, HeldNode, entry, put, IsGapFor, marked_node, AreAgesUndueBefore}
use Rattle.hn_store.proofs.NodePlaces.{put-in}
use Rattle.hn_store.specs.Ages.{IsAgeUndueBefore}

abbrev AreAgesUndue : ℕ → HeldNode → Type 0
AreAgesUndue end node = IsAgeUndueBefore end node.stored

-- so they are before a moment that is not later
pub ages_sooner : (end sooner : ℕ) (xs : List HeldNode) → sooner ≤ end → AreAgesUndueBefore end xs → AreAgesUndueBefore sooner xs
ages_sooner end sooner xs le are = All-weaker (AreAgesUndue end) (AreAgesUndue sooner) (λ node young now before. young now (omega (arith, before, le))) xs are

pub ages_none : (end : ℕ) → AreAgesUndueBefore end []
ages_none end = All-nil (AreAgesUndue end)

pub ages_marked : (end : ℕ) (reach : List NodeId) (now : ℕ) (xs : List HeldNode) → AreAgesUndueBefore end xs → AreAgesUndueBefore end (map (marked_node reach now) xs)
ages_marked end reach now xs are = All-map (AreAgesUndue end) (marked_node reach now) xs
    (All-weaker (AreAgesUndue end) (λ node. AreAgesUndue end (marked_node reach now node)) (λ node young. young) xs are)

pub ages_filter : (end : ℕ) (p : HeldNode → Bool) (xs : List HeldNode) → AreAgesUndueBefore end xs → AreAgesUndueBefore end (filter p xs)
ages_filter end p xs are = All-filter p (AreAgesUndue end) xs are

-- where the data of one are others, the moment is not later than the one of these
pub ages_set : (end sooner until : ℕ) (xs : List HeldNode) (place : ℕ) (node : HeldNode) → sooner ≤ end → sooner ≤ until → AreAgesUndueBefore end xs → IsAgeUndueBefore until node.stored
    → AreAgesUndueBefore sooner (set xs place node)
ages_set end sooner until xs place node before early are one =
    All-set (AreAgesUndue sooner) xs place node (λ now lt. one now (omega (arith, lt, early))) (ages_sooner end sooner xs before are)

-- so where there is one more
pub ages_insert : (end sooner until id : ℕ) (xs : List HeldNode) (place : ℕ) (stored : Stored) → IsGapFor xs id place → sooner ≤ end
    → sooner ≤ until → AreAgesUndueBefore end xs → IsAgeUndueBefore until stored
    → AreAgesUndueBefore sooner (insert xs place (entry id stored))
ages_insert end sooner until id xs place stored gap before early are one =
    let young = ages_sooner end sooner xs before are in
    let below : HeldNode → Bool = λ node. nat_lt node.id.0 id in
    let above : HeldNode → Bool = λ node. nat_lt id node.id.0 in
    let all : AreAgesUndueBefore sooner (put id stored xs) =
    All-append (AreAgesUndue sooner) (filter below xs) (entry id stored ∷ filter above xs) (All-filter below (AreAgesUndue sooner) xs young)
    (All-cons (AreAgesUndue sooner) (entry id stored) (filter above xs) (λ now lt. one now (omega (arith, lt, early))) (All-filter above (AreAgesUndue sooner) xs young)) in
    subst (AreAgesUndueBefore sooner) (sym (put-in xs id place stored gap)) all
