use Rattle.hn_base.proofs.Names.{rules}
use Rattle.hn_rules.proofs.NodeLists.{reach_of}
use Rattle.hn_rules.proofs.state.State.reachable.Goals as goal

pub returns : goal.returns
returns c = reach_of c.args.self.now c.as_slice.result.now c.reach.result (search rules) c.reach.ensures.ascending c.reach.ensures.exact
