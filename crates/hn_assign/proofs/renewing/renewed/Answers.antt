use Rattle.hn_base.proofs.Names.{◌↔◌, ◌⊎◌, List, Contains, subst, IfOk-weaker, HaveSame}
use Rattle.hn_assign.proofs.Names.{plain_view, Advertised, AreAdvertised}
use Rattle.hn_assign.specs.Renewed.{IsOfUnchanged}
use Rattle.hn_assign.proofs.Indexes.{advertised_same}
use Rattle.hn_assign.proofs.Renewals.{renewed_advertised}
use Rattle.hn_assign.proofs.renewing.renewed.Goals as goal

pub returns : goal.returns
returns c =
    let view = plain_view c.args.view.now in
    let assigned = c.args.held.now.assigned in
    let all = c.in_ok-all.all.items in
    let P : List Advertised → Type 0 = λ index. HaveSame index all in
    let joined_are : (a : Advertised) → Contains all a ↔ (Contains c.in_ok-fresh.fresh.items a ⊎ ((k : Advertised) × Contains c.args.known.now k × IsOfUnchanged c.args.changed.now k a)) = λ a.
    subst (λ (fs : List Advertised). Contains all a ↔ (Contains fs a ⊎ ((k : Advertised) × Contains c.args.known.now k × IsOfUnchanged c.args.changed.now k a)))
    c.deref.ensures.value (c.in_ok-all.ensures a) in
    let are : AreAdvertised view assigned all =
    renewed_advertised view c.args.changed.now c.args.known.now c.in_ok-fresh.fresh.items all assigned c.requires.known c.in_ok-fresh.ensures joined_are in
    IfOk-weaker c.merged.result P (AreAdvertised view assigned) (λ index same. advertised_same view assigned index all same are) c.merged.ensures
