use Rattle.hn_base.proofs.Names.{List, refl, ap, subst, false≢true}
use Rattle.hn_addr.proofs.Names.{NodeId, OwnAddress, seen_by, IsLeastOwn}
use Rattle.hn_addr.proofs.LeastOwnAddress.{above_goes, come_goes, stays_so}
use Rattle.hn_addr.proofs.stays.stays.Goals as goal
use Rattle.hn_addr.proofs.stays.stays.Goals.{then-is_above-via-then-is_above, then-is_above-via-else-is_above+then-has_come}

pub returns-then-is_above : goal.returns-then-is_above
returns-then-is_above c =
    let s = c.args.router.now in
    let id_is = ap (λ (id : NodeId). id.0) c.id.ensures in
    let least = subst (λ (own : List OwnAddress). IsLeastOwn own c.args.c.now c.in_ok-least.least) c.addresses.ensures c.in_ok-least.ensures in
    elim c.then-is_above.branch [
      | then-is_above-via-then-is_above w ↦
          above_goes (seen_by s) c.id.result s.addresses c.args.others.now c.args.list.now c.args.c.now id_is c.requires c.in_ok-least.least least (w.if-is_above.ensures.0 refl)
      | then-is_above-via-else-is_above+then-has_come w ↦
          come_goes (seen_by s) c.id.result s.addresses c.args.others.now c.args.list.now c.args.c.now id_is c.requires c.in_ok-least.least least (w.if-has_come.ensures.0 refl)
    ]

pub returns : goal.returns
returns c =
    let s = c.args.router.now in
    let id_is = ap (λ (id : NodeId). id.0) c.id.ensures in
    let least = subst (λ (own : List OwnAddress). IsLeastOwn own c.args.c.now c.in_ok-least.least) c.addresses.ensures c.in_ok-least.ensures in
    stays_so (seen_by s) c.id.result s.addresses c.args.others.now c.args.list.now c.args.c.now id_is c.requires c.in_ok-least.least least
    (λ above. false≢true (c.if-is_above.ensures.1 above))
    (λ come. false≢true (c.if-has_come.ensures.1 come))
