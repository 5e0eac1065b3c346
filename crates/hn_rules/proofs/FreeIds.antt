-- Of more identifiers in a row than are taken, one is free.
use Rattle.hn_base.proofs.Names.{◌≡◌, ◌<◌, ◌≤◌, ◌+◌, ◌%◌, ◌^◌, ℕ, Bool, true, false, List, [], ◌∷◌, length, map, get_or, Contains, sym, ◌∙◌, ⊎_elim, arith, below_more, eqb, ◌==◌, ◌||◌, All}
use Rattle.hn_base.proofs.Names.{IsDistinct, or_cases, eqb-true, ne_eqb, false_from_ne_true, cases_Bool, Decides-eqb, length-map, All-contains, All-map}
use Rattle.hn_rules.proofs.Names.{is_some, Contains-tail, held, HeldNode}
use Rattle.std.specs.List.{range_with_len}
use Rattle.std.proofs.lemmas.Cmp.{nat_eq_equiv}
use Rattle.std.proofs.lemmas.List.FromFn.{length-range_with_len, get_or-range_with_len, length-map-range_with_len, get_or-map-range_with_len}
use Rattle.std.proofs.lemmas.Map.Keys.{IsDistinct-from_apart}
use Rattle.hn_store.specs.Nodes.{ids_of_held}
use Rattle.hn_base.proofs.Pigeonhole.{length-le_from_Contains}

-- the identifier so many after a word
abbrev id_after : ℕ → ℕ → ℕ
id_after word j = (word + j) % 2 ^ 32

abbrev ids_after : ℕ → ℕ → List ℕ
ids_after word n = map (id_after word) (range_with_len 0 n)

abbrev taken : ℕ → ℕ → List HeldNode → Bool
taken id own entries = id == 0 || (id == own || is_some (held entries id))

abbrev taken_ids : ℕ → List HeldNode → List ℕ
taken_ids own entries = 0 ∷ own ∷ ids_of_held entries

id_is_held : (id : ℕ) (entries : List HeldNode) → is_some (held entries id) ≡ true → Contains (ids_of_held entries) id
id_is_held id [] is = absurd cc
id_is_held id (node ∷ entries) is =
    ⊎_elim
    (λ (here : (node.id.0 == id) ≡ true). (0, omega arith, eqb-true _ _ here))
    (λ (other : (node.id.0 == id) ≡ false).
    let later : is_some (held entries id) ≡ true = rw other at is in
    Contains-tail node.id.0 (ids_of_held entries) id (id_is_held id entries later))
    (cases_Bool (node.id.0 == id))

id_is_taken : (id own : ℕ) (entries : List HeldNode) → taken id own entries ≡ true → Contains (taken_ids own entries) id
id_is_taken id own entries is =
    ⊎_elim
    (λ (none : (id == 0) ≡ true). (0, omega arith, sym (eqb-true _ _ none)))
    (λ (others : (id == own || is_some (held entries id)) ≡ true). Contains-tail 0 (own ∷ ids_of_held entries) id (⊎_elim
    (λ (same : (id == own) ≡ true). (0, omega arith, sym (eqb-true _ _ same)))
    (λ (known : is_some (held entries id) ≡ true). Contains-tail own (ids_of_held entries) id (id_is_held id entries known))
    (or_cases _ _ others)))
    (or_cases _ _ is)

ids_apart : (word n : ℕ) → n ≤ 2 ^ 32 → IsDistinct eqb (ids_after word n)
ids_apart word n small = IsDistinct-from_apart eqb (ids_after word n) (λ i j d less within.
    let long = length-map-range_with_len (id_after word) 0 n in
    rw (get_or-map-range_with_len (id_after word) 0 n i i d (omega arith) (omega arith), get_or-map-range_with_len (id_after word) 0 n j j d (omega arith) (omega arith))
    (ne_eqb (id_after word i) (id_after word j) (λ same. omega arith)))

-- where as many identifiers are taken as can be, the next is free
pub free-after : (own : ℕ) (entries : List HeldNode) (word n : ℕ) → n ≡ length entries + 2 → n < 2 ^ 32
    → ((j : ℕ) → j < n → taken (id_after word j) own entries ≡ true) → taken (id_after word n) own entries ≡ false
free-after own entries word n enough small all =
    false_from_ne_true (taken (id_after word n) own entries) (λ one.
    let every = below_more (λ (j : ℕ). taken (id_after word j) own entries ≡ true) n all one in
    let Among : ℕ → Type 0 = Contains (taken_ids own entries) in
    let among : All Among (ids_after word (n + 1)) = All-map Among (id_after word) (range_with_len 0 (n + 1)) (λ k d within.
    let less : k < n + 1 = omega (arith, length-range_with_len 0 (n + 1)) in
    let at : get_or (range_with_len 0 (n + 1)) k d ≡ k = get_or-range_with_len 0 (n + 1) k d less ∙ omega arith in
    rw at (id_is_taken (id_after word k) own entries (every k less)))
    in
    let no_more = length-le_from_Contains nat_eq_equiv Decides-eqb (ids_after word (n + 1)) (taken_ids own entries)
    (ids_apart word (n + 1) (omega arith)) (λ id is. All-contains Among (ids_after word (n + 1)) id among is) in
    omega (arith, length-map-range_with_len (id_after word) 0 (n + 1), length-map entries (λ (node : HeldNode). node.id.0)))
