-- Bytes that are zero.
use Rattle.hn_base.proofs.Names.{◌≡◌, ℕ, List, ◌++◌, length, take, drop, replicate, refl, sym, ap, subst, ◌∙◌, take-append-drop, take_at, length-replicate, get_or-replicate, All-replicate}
use Rattle.hn_base.proofs.Names.{All}
use Rattle.std.proofs.lemmas.List.{same_lists}

-- bytes that are all zero
pub zeros_are : (bytes : List ℕ) → All (λ byte. byte ≡ 0) bytes → bytes ≡ replicate (length bytes) 0
zeros_are bytes zeros = same_lists bytes (replicate (length bytes) 0) (sym (length-replicate {A = ℕ} (length bytes) 0)) (λ k d lt. zeros k d lt ∙ sym (get_or-replicate (length bytes) k 0 d lt))

-- bytes that begin with so many zeros
pub begins_with_zeros : (after front rest : List ℕ) (count : ℕ) → front ≡ take count after → rest ≡ drop count after → length front ≡ count
    → All (λ byte. byte ≡ 0) front → after ≡ replicate count 0 ++ rest
begins_with_zeros after front rest count front-is rest-is len zeros =
    let same : front ≡ replicate count 0 = zeros_are front zeros ∙ ap (λ n. replicate n 0) len in
    sym (take-append-drop count after) ∙ rw (← front-is, ← rest-is, same) refl

pub zeros_at : (after front rest : List ℕ) (count : ℕ) → front ≡ take count after → after ≡ replicate count 0 ++ rest → All (λ byte. byte ≡ 0) front
zeros_at after front rest count front-is parts =
    let same : front ≡ replicate count 0 = front-is ∙ ap (take count) parts ∙ take_at (replicate count 0) rest count (length-replicate {A = ℕ} count 0) in
    subst (All (λ byte. byte ≡ 0)) (sym same) (All-replicate (λ byte. byte ≡ 0) count 0 refl)
