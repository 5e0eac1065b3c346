use Rattle.hn_base.proofs.Names.{◌≡◌, true, take, All}
use Rattle.hn_world.proofs.Names.{copies_of}
use Rattle.hn_world.proofs.mail.copies_of.Given as goal

abbrev pub invariant-loop-send : goal.invariant-loop-send
invariant-loop-send l = record {
  are : l.copies.items ≡ copies_of l.members l.place l.member (take l.send-index l.sends);
  waiting : All (λ c. c.waiting ≡ true) l.copies.items;
}
