-- Names whose bytes are compared from the last one on.
use Rattle.hn_base.proofs.Names.{◌≡◌, ◌≢◌, ◌∙◌, ℕ, ◌<◌, ◌≤◌, false, List, length, get_or, take, sym, ap, inl, inr, arith, bytes_eq, cases_Bool, same_number_lists, length-take-le, get_or-take}
use Rattle.hn_base.proofs.Names.{bytes_eq-Decides}

-- from this place on the bytes are the same
abbrev pub AreSameFrom : List ℕ → List ℕ → ℕ → ℕ → Type 0
AreSameFrom a b len place = (k : ℕ) → place ≤ k → k < len → get_or a k 0 ≡ get_or b k 0

pub same_texts : (a b : List ℕ) (len : ℕ) → len ≤ length a → len ≤ length b → AreSameFrom a b len 0 → take len a ≡ take len b
same_texts a b len in_a in_b same =
    same_number_lists (take len a) (take len b) (length-take-le len a in_a ∙ sym (length-take-le len b in_b))
    (λ k lt. let below : k < len = (let long = length-take-le len a in_a in omega (arith, lt, long)) in
    get_or-take len a k 0 below ∙ same k (omega arith) below ∙ sym (get_or-take len b k 0 below))

pub other_byte : (a b : List ℕ) (len place : ℕ) → place < len → get_or a place 0 ≢ get_or b place 0 → take len a ≢ take len b
other_byte a b len place below other same = other (sym (get_or-take len a place 0 below) ∙ ap (λ (xs : List ℕ). get_or xs place 0) same ∙ get_or-take len b place 0 below)

-- what the test of bytes says of texts that are not the same
pub not_same : (xs ys : List ℕ) → xs ≢ ys → bytes_eq xs ys ≡ false
not_same xs ys other =
    elim (cases_Bool (bytes_eq xs ys)) [
      | inl same ↦ absurd (other ((bytes_eq-Decides xs ys).0 same))
      | inr fails ↦ fails
    ]
