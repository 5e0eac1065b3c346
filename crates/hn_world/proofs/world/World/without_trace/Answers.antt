use Rattle.hn_base.proofs.Names.{[]}
use Rattle.hn_world.proofs.KeptTraces.{kept_none}
use Rattle.hn_world.proofs.world.World.without_trace.Goals as goal

pub invariant_of-result : goal.invariant_of-result
invariant_of-result c = kept_none c.args.version c.empty.result c.none.result c.empty.ensures (c.none.ensures.kept [])
