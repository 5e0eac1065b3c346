-- The conditions of rest on which the laws stand: each is needed.
use Rattle.std.specs.Prelude.{◌≡◌, ℕ, ◌⊎◌, Some, None}
use Rattle.hn_assign.specs.declared.advertised.Advertised.{Advertised}
use Rattle.hn_pair.specs.declared.assigned.Assigned.{Assigned}
use Rattle.hn_assign.specs.Best.{IsBest, HasNoBest, IsValid}
use Rattle.hn_assign.specs.Rest.{IsAtRest}
use Rattle.hn_sound.specs.AtRest.{PairFact}

pub data Condition : Type 0 where
  -- with neither a best nor an assignment: not wanted, or nothing free
  NothingToDo : Condition
  -- without a best: published
  Published : Condition
  -- without a best: valid
  Valid : Condition
  -- published beside a best: with a greater key
  GreaterKey : Condition
  -- with the best prefix: not published
  Unpublished : Condition
  -- not published beside a best: with the best prefix
  BestPrefix : Condition

-- the pair meets what else its case of rest asks for
abbrev pub MeetsRest : Condition → PairFact
MeetsRest NothingToDo adv own wish held = (held ≡ None) × HasNoBest adv own wish.common wish.delegated
MeetsRest Published adv own wish held =
    (c : Assigned) × (held ≡ Some c) × HasNoBest adv own wish.common wish.delegated × IsValid adv own wish.common c
MeetsRest Valid adv own wish held =
    (c : Assigned) × (priority : ℕ) × (held ≡ Some c) × HasNoBest adv own wish.common wish.delegated
    × (c.published ≡ Some priority)
MeetsRest GreaterKey adv own wish held =
    (c : Assigned) × (best : Advertised) × (priority : ℕ) × (held ≡ Some c)
    × IsBest adv own wish.common wish.delegated best × (c.published ≡ Some priority) × IsValid adv own wish.common c
MeetsRest Unpublished adv own wish held =
    (c : Assigned) × (best : Advertised) × (held ≡ Some c) × IsBest adv own wish.common wish.delegated best
    × (c.prefix ≡ best.prefix)
MeetsRest BestPrefix adv own wish held =
    (c : Assigned) × (best : Advertised) × (held ≡ Some c) × IsBest adv own wish.common wish.delegated best
    × (c.published ≡ None)

-- at rest, or so but for the condition
abbrev pub IsAtRestBut : Condition → PairFact
IsAtRestBut but adv own wish held = IsAtRest adv own wish held ⊎ MeetsRest but adv own wish held
