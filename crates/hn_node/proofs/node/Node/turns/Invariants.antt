use Rattle.hn_base.proofs.Names.{◌≡◌, ◌≤◌, List}
use Rattle.hn_node.proofs.Names.{Logged, serving, handed_in, AreTurns, plain_site, Grows}
use Rattle.hn_node.proofs.node.Node.turns.Given as goal

abbrev pub invariant-loop : goal.invariant-loop
invariant-loop g l =
    let outside = g.W.Wire in
    let time = g.C.Clock in
    let random = g.D.Draw in
    record {
      so_far : (log : List Logged) × AreTurns (plain_site l.fn.site) l.counter log (serving l.fn.self.router (outside.waiting l.fn.wire))
          (serving l.self.router (outside.waiting l.wire)) (time.readings l.fn.clock) (time.readings l.clock)
          × Grows log (handed_in (plain_site l.fn.site) log) (random.words l.fn.draw) (random.words l.draw) l.fn.self l.self;
      past : l.self.router.moment ≤ time.last l.clock;
      no_fault : outside.faults l.wire ≡ outside.faults l.fn.wire;
      reliable : outside.never_fails l.fn.wire → outside.never_fails l.wire;
    }
