-- Places for what is remembered of keys. One may be empty.
use Rattle.std.specs.Prelude.{Option, option_and_then, IsSome}
use Rattle.std.specs.declared.cmp.Ordering.{Ordering}
use Rattle.std.specs.BTreeMap.{BTreeMap, get}

module _ {K V : Type 0} (cmp : K → K → Ordering) where
  -- what is at a key; an empty place is as if there were none
  abbrev pub held : BTreeMap K (Option V) → K → Option V
  held places key = option_and_then (λ v. v) (get cmp places key)

  -- the key has a place
  abbrev pub HasPlace : BTreeMap K (Option V) → K → Type 0
  HasPlace places key = IsSome (get cmp places key)
