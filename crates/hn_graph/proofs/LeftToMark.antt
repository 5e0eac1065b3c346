-- What is left to mark.
use Rattle.hn_base.proofs.Names.{◌≡◌, ℕ, ◌<◌, Bool, true, false, not, cond, List, length, replicate, get_or, refl, arith, count_by}
use Rattle.hn_graph.proofs.Names.{IsPlaceMarked}
use Rattle.std.proofs.lemmas.List.Folds.{sum_by-replicate}
use Rattle.hn_graph.proofs.Marking.{count_set}

-- where nothing is marked, all is left
pub all_left : (n : ℕ) → count_by not (replicate n false) ≡ n
all_left n = let each = sum_by-replicate (λ b. cond (not b) 1 0) n false in omega (arith, each)

marked_where_none_left : (found : List Bool) (k : ℕ) (b : Bool) → get_or found k false ≡ b → count_by not found ≡ 0 → k < length found → IsPlaceMarked found k
marked_where_none_left found k true is none lt = is
marked_where_none_left found k false is none lt = absurd (let one = count_set found k lt is in omega (arith, one, none))

-- where none is left, each is marked
pub none_left : (found : List Bool) → count_by not found ≡ 0 → (k : ℕ) → k < length found → IsPlaceMarked found k
none_left found none k lt = marked_where_none_left found k (get_or found k false) refl none lt
