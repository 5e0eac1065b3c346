-- A hash consists of bytes.
use Rattle.hn_base.proofs.Names.{ℕ, zero, suc, List, slice_index, w32, AllByRecursion, All-from_recursion, IsByte}
use Rattle.hn_hash.proofs.Names.{hash_of}
use Rattle.std.specs.Int.{bytes_low_first, to_le_bytes}
use Rattle.md5.specs.Md5.{md5, digest_bytes}
use Rattle.hn_base.proofs.BigEndian.{byte_small}
use Rattle.hn_base.proofs.EachByRecursion.{AllByRecursion-append, AllByRecursion-take}
use Rattle.hn_hash.specs.Laws.{HashHasEightBytes}
use Rattle.hn_hash.proofs.HashLengths.{length-hash_of}

low_bytes : (i k n : ℕ) → AllByRecursion IsByte (bytes_low_first i k n)
low_bytes i zero n = tt
low_bytes i (suc k) n = (byte_small i n, low_bytes (suc i) k n)

digest_small : (words : List ℕ) (n : ℕ) → AllByRecursion IsByte (digest_bytes words n)
unfolding digest_bytes
digest_small words zero = tt
digest_small words (suc n) =
    AllByRecursion-append IsByte (digest_bytes words n) (to_le_bytes w32 (slice_index words n)) (digest_small words n) (low_bytes 0 4 (slice_index words n))

md5_small : (text : List ℕ) → AllByRecursion IsByte (md5 text)
unfolding md5
md5_small text = digest_small _ 4

pub eight_bytes : HashHasEightBytes
eight_bytes text = (length-hash_of text, All-from_recursion IsByte (hash_of text) (AllByRecursion-take IsByte 8 (md5 text) (md5_small text)))
