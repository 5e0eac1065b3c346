use Rattle.hn_base.proofs.Names.{[]}
use Rattle.hn_ula.proofs.OneDecision.{no_words, by_first, by_second, by_third, keeps_with, keeps_without}
use Rattle.hn_ula.proofs.decision.decide.Goals as goal
use Rattle.hn_ula.proofs.decision.decide.Goals.{in_default-via-in-Some-2+else-found-2, in_default-via-in-None+else-found-3}

pub returns-in-Some-clause-decided : goal.returns-in-Some-clause-decided
returns-in-Some-clause-decided g c = (
  [],
  by_first c.args.router.now c.in_ok-found.found c.in_ok-found.ensures c.in-Some.own c.in-Some.is c.if-found.true,
  no_words (g.D.Draw.words c.args.draw.now),
)

pub returns-in-Some-2-clause-decided : goal.returns-in-Some-2-clause-decided
returns-in-Some-2-clause-decided g c = (
  [],
  by_second c.args.router.now c.in_ok-found.found c.in_ok-found.ensures c.in-Some-2.own c.in-Some-2.is c.if-found.false c.if-found-2.true,
  no_words (g.D.Draw.words c.args.draw.now),
)

pub returns-in-None-clause-decided : goal.returns-in-None-clause-decided
returns-in-None-clause-decided g c = (
  c.announce.ensures.0,
  by_third c.args.router.now c.in_ok-found.found c.in_ok-found.ensures c.announce.result c.announce.ensures.0 c.in-None.is c.if-found-3.true c.announce.ensures.1,
  c.announce.ensures.2,
)

pub returns-in_default-clause-decided : goal.returns-in_default-clause-decided
returns-in_default-clause-decided g c = (
  [],
  elim c.in_default.branch [
    | in_default-via-in-Some-2+else-found-2 w ↦
        keeps_with c.args.router.now c.in_ok-found.found c.in_ok-found.ensures w.in-Some-2.own w.in-Some-2.is w.if-found.false w.if-found-2.false
    | in_default-via-in-None+else-found-3 w ↦ keeps_without c.args.router.now c.in_ok-found.found c.in_ok-found.ensures w.in-None.is w.if-found-3.false
  ],
  no_words (g.D.Draw.words c.args.draw.now),
)
