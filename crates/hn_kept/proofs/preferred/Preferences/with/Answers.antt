use Rattle.hn_base.proofs.Names.{◌∙◌, List, sym, ap, subst}
use Rattle.hn_pair.specs.Pair.{IsAscending}
use Rattle.hn_kept.specs.declared.preferred.Preferred.{Preferred}
use Rattle.hn_kept.specs.Preferred.{preferred_pair, before_pair, after_pair}
use Rattle.hn_kept.proofs.InOrder.{with_is, in_order}
use Rattle.hn_kept.proofs.preferred.Preferences.with.Goals as goal

pub invariant_of-result : goal.invariant_of-result
invariant_of-result c =
    let f : Preferred = c.args.of.now in
    let items : List Preferred = c.self.inside.items.items in
    subst (IsAscending preferred_pair)
    (sym (with_is f items c.in_ok-items.items.items c.push.new.self.items c.as_slice-3.result.now c.extend_from_slice.new.self.items
    (c.in_ok-items.ensures ∙ ap (before_pair f) c.as_slice.ensures.value) c.in_ok-push.ensures.items
    (c.as_slice-3.ensures.value ∙ c.in_ok-after.ensures ∙ ap (after_pair f) c.as_slice-2.ensures.value) c.in_ok-extend_from_slice.ensures.items))
    (in_order c.pairs_are_ordered.ensures.total f items c.self.invariant)
