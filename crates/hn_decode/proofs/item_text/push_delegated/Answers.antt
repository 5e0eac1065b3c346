use Rattle.hn_base.proofs.Names.{append_assoc}
use Rattle.hn_decode.proofs.item_text.push_delegated.Goals as goal

pub returns : goal.returns
returns c = simp append_assoc (rw (← c.text-prefix.ensures) c.write.ensures.bytes)
