use Rattle.hn_hash.proofs.SameOrCollide.{agree_or_collide}
use Rattle.hn_hash.proofs.laws.equal_hashes_agree_or_collide.Goals as goal

pub returns : goal.returns
returns c = agree_or_collide
