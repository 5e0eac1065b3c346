use Rattle.std.specs.Prelude.{◌≡◌, ◌≢◌, ℕ, List, take}
use Rattle.md5.specs.Md5.{md5}

-- The hash of a text: the first 8 bytes of its MD5 (RFC 7788, section 3).
abbrev pub hash_of : List ℕ → List ℕ
hash_of text = take 8 (md5 text)

-- Two texts that differ and have one hash.
pub record Collides (left right : List ℕ) : Type 0 where
  pub differ : left ≢ right
  pub one_hash : hash_of left ≡ hash_of right
