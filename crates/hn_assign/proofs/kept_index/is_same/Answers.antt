use Rattle.std.proofs.Common.{◌∙◌, sym}
use Rattle.hn_base.proofs.Keys.{node_decided}
use Rattle.hn_assign.proofs.kept_index.is_same.Goals as goal

pub returns : goal.returns
returns c is = (node_decided c.args.a c.args.b).0 (sym c.eq.ensures ∙ is)
