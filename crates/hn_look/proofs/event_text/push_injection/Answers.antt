use Rattle.hn_base.proofs.Names.{append_assoc}
use Rattle.hn_look.proofs.event_text.push_injection.Goals as goal

pub returns : goal.returns
returns c = simp append_assoc (rw (← c.way_word-way.ensures, ← c.address_text-address.ensures.exact) c.write.ensures.bytes)
