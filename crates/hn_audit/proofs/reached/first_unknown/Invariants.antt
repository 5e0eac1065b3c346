use Rattle.hn_base.proofs.Names.{take, None}
use Rattle.hn_audit.proofs.Names.{All, FindsId}
use Rattle.hn_audit.proofs.reached.first_unknown.Given as goal

abbrev pub invariant-loop-id : goal.invariant-loop-id
invariant-loop-id l = All (λ id. FindsId l.world.parts id None) (take l.id-index l.reach)
