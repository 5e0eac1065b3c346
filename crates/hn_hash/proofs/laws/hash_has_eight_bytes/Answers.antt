use Rattle.hn_hash.proofs.HashBytes.{eight_bytes}
use Rattle.hn_hash.proofs.laws.hash_has_eight_bytes.Goals as goal

pub returns : goal.returns
returns c = eight_bytes
