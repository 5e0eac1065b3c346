use Rattle.hn_base.proofs.Names.{on_total, then_total, nat_cmp_total}
use Rattle.hn_link.proofs.Names.{endpoint_cmp}
use Rattle.hn_base.proofs.AscendingLists.{ascending_unique}
use Rattle.hn_link.proofs.laws.common_link_is_unique.Goals as goal

pub returns : goal.returns
returns c view e a b p q =
    let total = then_total (on_total (λ at. at.0.0) nat_cmp_total) (on_total (λ at. at.1.0) nat_cmp_total) in
    ascending_unique endpoint_cmp total a b p.ascending q.ascending (λ at. (λ h. (q.exact at).1 ((p.exact at).0 h), λ h. (p.exact at).1 ((q.exact at).0 h)))
