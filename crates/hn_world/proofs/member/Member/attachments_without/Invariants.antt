use Rattle.hn_base.proofs.Names.{◌≡◌, not, filter, take}
use Rattle.hn_world.proofs.Names.{is_of}
use Rattle.hn_world.proofs.member.Member.attachments_without.Given as goal

abbrev pub invariant-loop-a : goal.invariant-loop-a
invariant-loop-a l = l.attachments ≡ filter (λ a. not (is_of l.endpoint a)) (take l.a-index l.a-items)
