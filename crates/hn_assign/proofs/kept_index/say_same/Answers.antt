use Rattle.std.proofs.lemmas.Slice.Eq.{slice_eq-Decides}
use Rattle.hn_assign.proofs.HeldSame.{said_decided}
use Rattle.hn_assign.proofs.kept_index.say_same.Goals as goal

pub returns : goal.returns
returns c = slice_eq-Decides said_decided c.args.a.now c.args.b.now c.eq.result c.eq.ensures
