use Rattle.hn_base.proofs.Names.{refl}
use Rattle.md5.specs.Md5.{md5, digest_bytes, hash_after, compress, rounds, block_words}
use Rattle.hn_hash.proofs.hash.hash_of_nothing.Goals as goal

-- by computation
pub returns : goal.returns
unfolding md5 digest_bytes hash_after compress rounds block_words
returns c = refl
