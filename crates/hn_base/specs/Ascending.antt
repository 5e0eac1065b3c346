-- Lists as sets, orders by which they ascend, and what they have for a key.
use Rattle.std.specs.Prelude.{◌≡◌, ◌↔◌, List, Contains, Option, Some, None}
use Rattle.std.specs.declared.cmp.Ordering.{Ordering}
use Rattle.std.specs.declared.cmp.Ordering.TheVariants.{Equal}

-- only a value itself is equal to it by this order
abbrev pub IsExact : {K : Type 0} → (K → K → Ordering) → Type 0
IsExact {K} cmp = (x y : K) → cmp x y ≡ Equal → x ≡ y

-- the lists have the same elements
abbrev pub HaveSame : {X : Type 0} → List X → List X → Type 0
HaveSame {X} xs ys = (x : X) → Contains xs x ↔ Contains ys x

-- what a list has for a key, if it has something
abbrev pub HasAt : {A K : Type 0} → (A → K) → K → Option A → List A → Type 0
HasAt {A} key_of key None xs = (x : A) → Contains xs x → ¬ (key_of x ≡ key)
HasAt key_of key (Some x) xs = Contains xs x × (key_of x ≡ key)
