use Rattle.std.proofs.lemmas.Slice.Eq.{slice_eq-Decides}
use Rattle.hn_assign.proofs.HeldSame.{assigned_decided}
use Rattle.hn_assign.proofs.kept_index.same_assigned.Goals as goal

pub returns : goal.returns
returns c = slice_eq-Decides assigned_decided c.args.a.now c.args.b.now c.eq.result c.eq.ensures
