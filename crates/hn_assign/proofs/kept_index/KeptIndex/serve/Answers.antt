use Rattle.std.proofs.Common.{◌∙◌, List, ap, subst, sym}
use Rattle.hn_base.specs.declared.ids.NodeId.{NodeId}
use Rattle.hn_data.specs.View.{plain_view}
use Rattle.hn_data.specs.declared.view.Entry.{Entry}
use Rattle.hn_assign.specs.Alike.{AdvertiseAlike}
use Rattle.hn_assign.specs.Gathered.{AreAdvertised}
use Rattle.hn_assign.proofs.Alikes.{alike_advertised}
use Rattle.hn_assign.proofs.kept_index.KeptIndex.serve.Goals as goal

pub returns-then-are_alike : goal.returns-then-are_alike
returns-then-are_alike c =
    let same = c.are_alike.ensures c.if-are_alike.true in
    let view = plain_view c.args.view.now in
    subst (AreAdvertised view c.args.held.now.assigned) (sym c.in_ok-clone.ensures.cases)
    (alike_advertised c.self.inside.own.0 0 c.self.inside.nodes.items view c.self.inside.assigned.items c.args.held.now.assigned c.self.inside.index
    (ap (λ (id : NodeId). id.0) same.0) (sym c.deref-2.ensures.value
    ∙ same.1) (subst (λ (nodes : List Entry). AdvertiseAlike nodes view.nodes) c.deref.ensures.value same.2) c.self.invariant.advertised)
