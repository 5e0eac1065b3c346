use Rattle.hn_base.proofs.Names.{IsTrue, take}
use Rattle.hn_lab.proofs.Names.{All, IsUlaStill, is_in_set}
use Rattle.hn_lab.proofs.ula_report.all_still.Given as goal

-- each so far is still, if it is in the set
abbrev pub invariant-loop-member : goal.invariant-loop-member
invariant-loop-member l = All (λ m. IsTrue (is_in_set l.reach m) → IsUlaStill m.router) (take l.member-index l.members)
