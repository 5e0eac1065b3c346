-- The parts of leaves: their text is that of the leaves, and their numbers are those of the leaves.
use Rattle.hn_base.proofs.Names.{◌≡◌, ◌^◌, ◌<◌, List, [], ◌∷◌, ◌++◌, map, refl, ap, subst, All, AllByRecursion, recursion_from_All, All-from_recursion}
use Rattle.hn_hash.proofs.Names.{leaf_entry, part_text, leaf_text, AreNumbered, Leaf, Part}
use Rattle.hn_hash.specs.Network.{leaf_part, ArePartsOf}

pub part_text-map : (leaves : List Leaf) → part_text (map leaf_part leaves) ≡ leaf_text leaves
part_text-map [] = refl
part_text-map (x ∷ xs) = ap (λ rest. leaf_entry x ++ rest) (part_text-map xs)

abbrev PartHasNumber : Part → Type 0
PartHasNumber part = part.number < 2 ^ 32

-- the sequence number has 32 bits
abbrev pub HasNumber : Leaf → Type 0
HasNumber leaf = leaf.number < 2 ^ 32

numbers_of_leaves : (leaves : List Leaf) → AllByRecursion PartHasNumber (map leaf_part leaves) → AllByRecursion HasNumber leaves
numbers_of_leaves [] fits = tt
numbers_of_leaves (x ∷ xs) fits = (fits.0, numbers_of_leaves xs fits.1)

pub AreNumbered-from_parts : (parts : List Part) (leaves : List Leaf) → All (λ (part : Part). part.number < 2 ^ 32) parts → ArePartsOf parts leaves → AreNumbered leaves
AreNumbered-from_parts parts leaves fits are =
    All-from_recursion HasNumber leaves (numbers_of_leaves leaves (subst (AllByRecursion PartHasNumber) are (recursion_from_All PartHasNumber parts fits)))
