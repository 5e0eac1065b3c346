-- A number that is not among numbers in ascending order, since it stands between two of them.
use Rattle.hn_base.proofs.Names.{◌≡◌, ℕ, ◌<◌, ◌≤◌, ◌-◌, List, length, get_or, ◌∙◌, ⊎_elim, arith, Contains, IsStrictlySortedBy, nat_cmp, cases_lt, get_or_default, below_from_sorted}
use Rattle.hn_graph.specs.Search.{AreBelow, AreAbove}

pub below_all : (xs : List ℕ) (place id : ℕ) → IsStrictlySortedBy nat_cmp xs → place ≤ length xs → 0 < place → get_or xs (place - 1) 0 < id → AreBelow xs place id
below_all xs place id up within some last k before =
    ⊎_elim (λ (earlier : k < place - 1). let less = below_from_sorted xs k (place - 1) 0 up earlier (omega arith) in omega (arith, less, last))
    (λ (rest : place - 1 ≤ k). let same : k ≡ place - 1 = omega arith in rw same last)
    (cases_lt k (place - 1))

pub above_all : (xs : List ℕ) (place id : ℕ) → IsStrictlySortedBy nat_cmp xs → id < get_or xs place 0 → AreAbove xs place id
above_all xs place id up first k from within =
    ⊎_elim (λ (later : place < k). let less = below_from_sorted xs place k 0 up later within in omega (arith, less, first))
    (λ (rest : k ≤ place). let same : k ≡ place = omega arith in rw same first)
    (cases_lt place k)

pub none_there : (xs : List ℕ) (place id : ℕ) → AreBelow xs place id → AreAbove xs place id → ¬ (Contains xs id)
none_there xs place id below above (k, lt, is) =
    let read : get_or xs k 0 ≡ id = get_or_default xs k 0 id lt ∙ is in
    ⊎_elim (λ (before : k < place). absurd (let less = below k before in omega (arith, less, read)))
    (λ (after : place ≤ k). absurd (let less = above k after lt in omega (arith, less, read)))
    (cases_lt k place)
