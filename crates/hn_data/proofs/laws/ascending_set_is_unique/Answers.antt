use Rattle.hn_base.proofs.Names.{◌≡◌, ap, sym, ◌∙◌, nat_cmp, slice_cmp, concat, nat_list_cmp_total}
use Rattle.hn_base.proofs.AscendingLists.{ascending_unique}
use Rattle.hn_data.proofs.laws.ascending_set_is_unique.Goals as goal

pub returns : goal.returns
returns c pieces a b p q =
    let same : p.ascending ≡ q.ascending = ascending_unique (slice_cmp nat_cmp) nat_list_cmp_total p.ascending q.ascending p.in_order q.in_order
    (λ piece. (λ h. (q.same piece).1 ((p.same piece).0 h), λ h. (p.same piece).1 ((q.same piece).0 h))) in
    p.joined ∙ ap concat same ∙ sym q.joined
