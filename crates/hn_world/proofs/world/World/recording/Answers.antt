use Rattle.hn_world.proofs.KeptTraces.{kept_none}
use Rattle.hn_world.proofs.world.World.recording.Goals as goal

pub invariant_of-result : goal.invariant_of-result
invariant_of-result c = kept_none c.args.version c.empty.result c.new.result c.empty.ensures c.new.ensures.kept
