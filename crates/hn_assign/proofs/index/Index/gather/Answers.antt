use Rattle.hn_base.proofs.Names.{List, IfOk-weaker, HaveSame}
use Rattle.hn_assign.proofs.Names.{plain_view, Advertised, AreAdvertised}
use Rattle.hn_assign.proofs.Indexes.{advertised_same}
use Rattle.hn_assign.proofs.index.Index.gather.Goals as goal

pub returns : goal.returns
returns c =
    let view = plain_view c.args.view.now in
    let assigned = c.args.held.now.assigned in
    let P : List Advertised → Type 0 = λ index. HaveSame index c.in_ok-advertised.advertised in
    IfOk-weaker c.over.result P (AreAdvertised view assigned)
    (λ index same. advertised_same view assigned index c.in_ok-advertised.advertised same c.in_ok-advertised.ensures)
    (rw c.into_vec.ensures at c.over.ensures)
