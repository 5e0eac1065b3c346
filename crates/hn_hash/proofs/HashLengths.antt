-- How long hashes and entries are, and what equal entries say.
use Rattle.hn_base.proofs.Names.{◌≡◌, ℕ, List, length, refl, arith, length-append, w32, to_be_bytes, length-take-le}
use Rattle.hn_hash.proofs.Names.{hash_of, leaf_entry, Leaf, same_parts}
use Rattle.md5.specs.Md5.{md5, digest_bytes}

pub length-md5 : (text : List ℕ) → length (md5 text) ≡ 16
unfolding md5 digest_bytes
length-md5 text = refl

pub length-hash_of : (text : List ℕ) → length (hash_of text) ≡ 8
length-hash_of text = length-take-le 8 (md5 text) (omega (arith, length-md5 text))

pub length-entry_of : (leaf : Leaf) → length (leaf_entry leaf) ≡ 12
length-entry_of leaf =
    omega (arith, length-append (to_be_bytes w32 leaf.number) (hash_of leaf.body), length-hash_of leaf.body)

-- what equal entries say
pub same_entries : (x y : Leaf) → leaf_entry x ≡ leaf_entry y
    → (to_be_bytes w32 x.number ≡ to_be_bytes w32 y.number) × (hash_of x.body ≡ hash_of y.body)
same_entries x y e = same_parts (to_be_bytes w32 x.number) (to_be_bytes w32 y.number) _ _ refl e
