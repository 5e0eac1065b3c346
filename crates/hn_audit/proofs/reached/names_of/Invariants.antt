use Rattle.hn_base.proofs.Names.{◌≡◌, map, take}
use Rattle.hn_audit.proofs.Names.{members_of}
use Rattle.hn_audit.proofs.reached.names_of.Given as goal

abbrev pub invariant-loop-member : goal.invariant-loop-member
invariant-loop-member l = l.names.items ≡ map (λ m. m.name) (members_of (take l.member-index l.set))
