use Rattle.hn_base.proofs.Names.{List, subst, HaveSame}
use Rattle.hn_assign.proofs.Names.{Advertised}
use Rattle.std.proofs.Common.{IfOk}
use Rattle.hn_assign.proofs.index.Index.of.Goals as goal

pub returns : goal.returns
returns c = subst (λ (xs : List Advertised). IfOk c.over.result (λ index. HaveSame index xs)) c.in_ok-copy.ensures.items c.over.ensures
