use Rattle.hn_base.proofs.Names.{slice_eq-Decides}
use Rattle.hn_rules.proofs.ReachStays.{link_decided}
use Rattle.hn_rules.proofs.reaching.are_same.Goals as goal

pub returns : goal.returns
returns c = slice_eq-Decides link_decided c.args.a.now c.args.b.now c.eq.result c.eq.ensures
