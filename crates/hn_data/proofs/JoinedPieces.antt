-- Pieces of bytes joined in order.
use Rattle.hn_base.proofs.Names.{◌≡◌, ◌∙◌, ℕ, ◌+◌, ◌<◌, List, [], ◌∷◌, ◌++◌, length, take, map, get_or, ap, concat, take_more, map-append, append-nil, concat-append}

-- one more piece
pub concat_more : {K : Type 0} (f : K → List ℕ) (ps : List K) (i : ℕ) (d : K) → i < length ps → concat (map f (take (i + 1) ps)) ≡ concat (map f (take i ps)) ++ f (get_or ps i d)
concat_more f ps i d within =
    ap (λ xs. concat (map f xs)) (take_more ps i d within) ∙ ap concat (map-append f (take i ps) (get_or ps i d ∷ [])) ∙ concat-append (map f (take i ps)) (f (get_or ps i d) ∷ [])
    ∙ ap (λ xs. concat (map f (take i ps)) ++ xs) (append-nil (f (get_or ps i d)))
