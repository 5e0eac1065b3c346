-- Laws of pairs: lists that cannot be missing.
use Rattle.std.specs.Prelude.{◌≡◌, List, Option, IfSome}
use Rattle.hn_base.specs.Exists.{Some! }
use Rattle.hn_pair.specs.declared.assigned.Wish.{Wish}
use Rattle.hn_pair.specs.declared.pair.Pair.{Pair}
use Rattle.hn_pair.specs.Pair.{IsAscending, KeepsWished, Updates}

-- It cannot be missing what a list keeps of wished pairs.
abbrev pub KeptExists : {A : Type 0} → (A → Pair) → Type 0
KeptExists {A} pair_of = (wishes : List Wish) (before : List A) → IsAscending pair_of before → Some! (KeepsWished pair_of wishes before)

-- Nor a list in which a pair has this, or nothing, in place of what it had.
abbrev pub UpdatedExists : {A : Type 0} → (A → Pair) → Type 0
UpdatedExists {A} pair_of =
    (pair : Pair) (has : Option A) (before : List A) → IsAscending pair_of before → IfSome has (λ x. pair_of x ≡ pair)
    → Some! (Updates pair_of pair has before)
