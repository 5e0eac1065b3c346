-- Lines of text, one after another.
use Rattle.hn_base.proofs.Names.{◌≡◌, ◌∙◌, ◌+◌, ◌<◌, ◌++◌, ℕ, List, ◌∷◌, Option, sym, ap, length, take, drop, get_or, add-one, Appends, drop-cons, take-append-drop, map-append}
use Rattle.std.proofs.KnownBytes.{Appends-trans}
use Rattle.hn_streams.specs.Output.{AppendsPart}
use Rattle.hn_streams.specs.TextLines.{AreCut, joined}
use Rattle.std.specs.Prelude.{map}

-- the lines before one, that one, and those after it
lines_at : {K : Type 0} (f : K → List ℕ) (xs : List K) (i : ℕ) (x : K) → i < length xs → x ≡ get_or xs i x → map f xs ≡ map f (take i xs) ++ f x ∷ map f (drop (i + 1) xs)
lines_at f xs i x within is =
    ap (map f) (sym (take-append-drop i xs))
    ∙ map-append f (take i xs) (drop i xs)
    ∙ ap (λ ys. map f (take i xs) ++ map f ys) (drop-cons xs i x within)
    ∙ ap (λ k. map f (take i xs) ++ f (get_or xs i x) ∷ map f (drop k xs)) (sym (add-one i))
    ∙ ap (λ y. map f (take i xs) ++ f y ∷ map f (drop (i + 1) xs)) (sym is)

-- of a line a part was written, after those before it
pub cut_at : {K : Type 0} (f : K → List ℕ) (xs : List K) (i : ℕ) (x : K) (lines : List (List ℕ)) (a b c : Option (List ℕ)) → i < length xs
    → x ≡ get_or xs i x → map f xs ≡ lines → Appends a b (joined (map f (take i xs))) → AppendsPart b c (f x)
    → (before : List (List ℕ)) × (cut part : List ℕ) × AreCut lines before cut part × Appends a c (joined before ++ part)
cut_at f xs i x lines a b c within is same written part = (
  map f (take i xs),
  f x,
  part.0,
  record { rest = map f (drop (i + 1) xs); lines_are = sym same ∙ lines_at f xs i x within is; in_part = part.1 },
  Appends-trans a b c (joined (map f (take i xs))) part.0 written part.2,
)
