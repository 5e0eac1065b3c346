use Rattle.hn_base.proofs.Names.{◌∙◌, subst}
use Rattle.hn_kept.specs.Kept.{Kept}
use Rattle.hn_router_c.specs.Calls.{Advertises, HasNoRoomFor, Advertised}
use Rattle.hn_router_c.proofs.Refusals.{of_some}
use Rattle.hn_router_c.proofs.reports.hn_router_advertise.Goals as goal

pub returns-clause-advertised : goal.returns-clause-advertised
returns-clause-advertised c =
    let same = c.deref_mut.ensures.value in
    let status = c.advertise-status in
    of_some c.in-Some.keeper.value c.in-Some.ensures.taken
    (λ before. Advertised (record { 0 = c.args.endpoint }) before c.of.result.held status.new.count c.args.room.now status.new.room status.result)
    (record {
      after = status.new.keeper;
      has = c.of.ensures;
      advertises = λ done. subst (λ (k : Kept). Advertises (record { 0 = c.args.endpoint }) k status.new.keeper status.new.count c.args.room.now status.new.room) same (status.ensures.advertises done);
      no_room = λ refused. subst (λ (k : Kept). HasNoRoomFor k (record { 0 = c.args.endpoint }) status.new.count c.args.room.now) same (status.ensures.no_room refused);
      as_before = λ refused. status.ensures.as_before refused ∙ same;
    })
