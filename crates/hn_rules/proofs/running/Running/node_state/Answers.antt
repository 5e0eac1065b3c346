use Rattle.hn_base.proofs.Names.{sym, subst, ◌∙◌}
use Rattle.hn_rules.proofs.Names.{plain_state, KnowsReach}
use Rattle.hn_rules.proofs.ReachStays.{taken_leaves}
use Rattle.hn_rules.proofs.TouchesNothingRead.{node_state_untouched}
use Rattle.hn_rules.proofs.running.Running.node_state.Goals as goal

pub returns-clause-untouched : goal.returns-clause-untouched
returns-clause-untouched g c none =
    node_state_untouched (plain_state c.args.carried.now) c.in_ok-how.how c.args.self.now c.take_state.new.self c.took.new.self
    (sym c.touched_by.ensures.any ∙ none) c.in_ok-how.ensures.takes c.in_ok-took.ensures.holds

pub returns-clause-known : goal.returns-clause-known
returns-clause-known g c some unlinked knows =
    let both = c.touched_by.ensures.links unlinked in
    subst KnowsReach (sym (taken_leaves (plain_state c.args.carried.now) c.in_ok-how.how c.take_state.new.self c.took.new.self both.0 c.in_ok-took.ensures.holds))
    (c.in_ok-how.ensures.known both.1 knows)
