use Rattle.hn_ula.proofs.OneDecision.{answer_with, answer_without}
use Rattle.hn_ula.proofs.decision.still.Goals as goal

pub returns-then-not-found : goal.returns-then-not-found
returns-then-not-found c = answer_with c.args.router.now c.in_ok-found.found c.in_ok-found.ensures c.in-Some.field-0 c.in-Some.is c.if-not-found.true

pub returns-in-None : goal.returns-in-None
returns-in-None c = answer_without c.args.router.now c.in_ok-found.found c.in_ok-found.ensures c.in-None.is
