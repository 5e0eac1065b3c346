use Rattle.hn_base.proofs.Names.{List, IfOk-weaker, sym, subst, HaveSame}
use Rattle.hn_assign.proofs.Names.{Advertised}
use Rattle.std.proofs.Common.{◌≡◌}
use Rattle.hn_assign.proofs.index.Index.merged.Goals as goal

pub returns : goal.returns
returns c =
    let ordered = c.merge_if_many.new.advertised.items in
    let P : List Advertised → Type 0 = λ index. HaveSame index c.args.advertised.items in
    IfOk-weaker c.of_ordered.result (λ index. index ≡ ordered) P (λ index is. subst P (sym is) c.in_ok-merge_if_many.ensures.same) c.of_ordered.ensures
