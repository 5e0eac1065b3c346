use Rattle.hn_base.proofs.Names.{◌≡◌, ◌++◌, true, None, filter, map, take, All}
use Rattle.hn_world.proofs.Names.{copy_for, gets, on_link}
use Rattle.hn_world.proofs.mail.add_for_others.Given as goal

abbrev pub invariant-loop-place : goal.invariant-loop-place
invariant-loop-place l = record {
  are : l.copies.items ≡ l.fn.copies.items ++ map (copy_for l.sender None l.bytes) (filter (gets l.sender None) (on_link l.link 0 (take l.place l.members)));
  waiting : All (λ c. c.waiting ≡ true) l.copies.items;
}
