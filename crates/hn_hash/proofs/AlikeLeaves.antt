-- What the equal texts of two lists of leaves say.
use Rattle.hn_base.proofs.Names.{◌≡◌, ℕ, zero, suc, ◌<◌, List, [], ◌∷◌, length, map, refl, sym, ap, ◌∙◌, arith, length-append, w32, to_be_bytes}
use Rattle.hn_hash.proofs.Names.{hash_of, leaf_entry, leaf_text, body_at, Leaf, same_parts}
use Rattle.hn_hash.proofs.HashLengths.{length-entry_of, same_entries}
use Rattle.hn_base.proofs.FrontOfList.{head_is, tail_is}

abbrev pub number_bytes : List Leaf → List (List ℕ)
number_bytes leaves = map (λ leaf. to_be_bytes w32 leaf.number) leaves

abbrev pub hashes : List Leaf → List (List ℕ)
hashes leaves = map (λ leaf. hash_of leaf.body) leaves

-- Two lists of leaves that agree in all but node data of one hash.
pub record IsAlike (a b : List Leaf) : Type 0 where
  pub len : length a ≡ length b
  pub numbers : number_bytes a ≡ number_bytes b
  pub one_hash : hashes a ≡ hashes b

not_empty : (x : Leaf) (xs : List Leaf) → leaf_text (x ∷ xs) ≡ [] → ⊥
not_empty x xs e = omega (arith, ap length e, length-append (leaf_entry x) (leaf_text xs), length-entry_of x)

pub IsAlike-from_texts : (a b : List Leaf) → leaf_text a ≡ leaf_text b → IsAlike a b
IsAlike-from_texts [] [] e = record { len = refl; numbers = refl; one_hash = refl }
IsAlike-from_texts [] (y ∷ ys) e = absurd (not_empty y ys (sym e))
IsAlike-from_texts (x ∷ xs) [] e = absurd (not_empty x xs e)
IsAlike-from_texts (x ∷ xs) (y ∷ ys) e =
    let parts = same_parts (leaf_entry x) (leaf_entry y) (leaf_text xs) (leaf_text ys) (length-entry_of x ∙ sym (length-entry_of y)) e in
    let first = same_entries x y parts.0 in
    let rest = IsAlike-from_texts xs ys parts.1 in
    let len_is = rest.len in
    let numbers_are = rest.numbers in
    let hashes_are = rest.one_hash in
    let first_number = first.0 in
    let first_hash = first.1 in
    record { len = ap suc rest.len; numbers = cc; one_hash = cc }

-- the first leaves, and the others
pub IsAlike-head : (x y : Leaf) (xs ys : List Leaf) → IsAlike (x ∷ xs) (y ∷ ys)
    → (to_be_bytes w32 x.number ≡ to_be_bytes w32 y.number) × (hash_of x.body ≡ hash_of y.body)
IsAlike-head x y xs ys alike = (head_is alike.numbers, head_is alike.one_hash)

pub IsAlike-tail : (x y : Leaf) (xs ys : List Leaf) → IsAlike (x ∷ xs) (y ∷ ys) → IsAlike xs ys
IsAlike-tail x y xs ys alike =
    record { len = omega (arith, alike.len); numbers = tail_is alike.numbers; one_hash = tail_is alike.one_hash }

-- the hash of the node data in one place
pub same_hash_at : (a b : List Leaf) → IsAlike a b → (i : ℕ) → i < length a → hash_of (body_at a i) ≡ hash_of (body_at b i)
same_hash_at [] [] alike i lt = refl
same_hash_at [] (y ∷ ys) alike i lt = absurd (omega (arith, alike.len))
same_hash_at (x ∷ xs) [] alike i lt = absurd (omega (arith, alike.len))
same_hash_at (x ∷ xs) (y ∷ ys) alike zero lt = (IsAlike-head x y xs ys alike).1
same_hash_at (x ∷ xs) (y ∷ ys) alike (suc i) lt = same_hash_at xs ys (IsAlike-tail x y xs ys alike) i (omega arith)
