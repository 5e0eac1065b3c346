use Rattle.hn_base.proofs.Names.{◌↔◌, List, Contains, subst}
use Rattle.hn_addr.proofs.Names.{NodeId, Taken}
use Rattle.hn_addr.specs.Others.{addresses_of_others}
use Rattle.hn_addr.proofs.others.Others.of.Goals as goal

pub returns : goal.returns
returns c = record {
  taken = c.in_ok-taken.ensures;
  ascending = c.in_ok-addresses.ensures.ascending;
  same = λ x.
      let set = c.in_ok-addresses.addresses.items in
      subst (λ (taken : List Taken). Contains set x ↔ Contains (addresses_of_others c.args.router.now.id.0 taken) x) c.as_slice.ensures.value
      (subst (λ (id : NodeId). Contains set x ↔ Contains (addresses_of_others id.0 c.as_slice.result.now) x) c.id.ensures (c.in_ok-addresses.ensures.same x));
}
