use Rattle.hn_base.proofs.Names.{◌≡◌, None, take}
use Rattle.hn_audit.proofs.Names.{All, FindsUnasked}
use Rattle.hn_audit.proofs.resting.first_unasked.Given as goal

abbrev pub invariant-loop-c : goal.invariant-loop-c
invariant-loop-c l = record {
  all : l.c-items ≡ l.s.router.held.assigned;
  so_far : All (λ c. FindsUnasked l.s.name l.wishes c None) (take l.c-index l.c-items);
}
