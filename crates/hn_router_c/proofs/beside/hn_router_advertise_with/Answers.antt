use Rattle.hn_base.proofs.Names.{◌∙◌, subst}
use Rattle.hn_kept.specs.Kept.{Kept}
use Rattle.hn_router_c.specs.Calls.{AdvertisesWith, IsRefusedWith, AdvertisedWith}
use Rattle.hn_router_c.proofs.Refusals.{of_some}
use Rattle.hn_router_c.proofs.beside.hn_router_advertise_with.Goals as goal

pub returns-clause-advertised : goal.returns-clause-advertised
returns-clause-advertised c =
    let same = c.deref_mut.ensures.value in
    let status = c.advertise_with-status in
    let options = c.args.options.now in
    of_some c.in-Some.keeper.value c.in-Some.ensures.taken
    (λ before. AdvertisedWith (record { 0 = c.args.endpoint }) options before c.of.result.held c.args.count.now status.new.count c.args.room.now status.new.room status.result)
    (record {
      after = status.new.keeper;
      has = c.of.ensures;
      advertises = λ done. subst (λ (k : Kept). AdvertisesWith (record { 0 = c.args.endpoint }) options k status.new.keeper status.new.count c.args.room.now status.new.room) same
          (status.ensures.advertises done);
      refused = λ refused. subst (λ (k : Kept). IsRefusedWith (record { 0 = c.args.endpoint }) options k c.args.count.now status.new.count c.args.room.now) same (status.ensures.refused refused);
      as_before = λ refused. status.ensures.as_before refused ∙ same;
    })
