use Rattle.hn_sound.proofs.Names.{key_at}
use Rattle.hn_sound.proofs.SameOrNot.{key_cmp_itself}
use Rattle.hn_sound.proofs.GreatestIsBest.{key_tells}
use Rattle.hn_sound.proofs.laws.key_tells_endpoint.Goals as goal

pub returns : goal.returns
returns c = λ home e f d other a k p q on_one h l same. key_tells home e f p q on_one h.has.there l.has.there (key_cmp_itself (key_at p e) (key_at q f) same)
