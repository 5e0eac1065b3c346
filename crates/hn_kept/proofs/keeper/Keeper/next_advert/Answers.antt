use Rattle.hn_base.proofs.Names.{ap}
use Rattle.hn_kept.specs.Kept.{Kept}
use Rattle.hn_kept.proofs.NextAdverts.{is_next}
use Rattle.hn_kept.proofs.Sizes.{is_short, is_short_beside}
use Rattle.hn_kept.proofs.keeper.Keeper.next_advert.Goals as goal

pub returns-clause-next : goal.returns-clause-next
returns-clause-next c =
    is_next c.pairs_are_ordered.ensures.total c.args.self.now c.args.at c.args.options c.in_ok-bytes.field-0 c.self.inside.router c.self.inside.departures c.in_ok-infos.departures
    c.in_ok-advert.advert
    c.moment-now.result c.len.result c.room_beside-room.result c.as_slice.result.now c.in_ok-infos.infos
    (ap (λ (k : Kept). k.router) c.self.view_is) (ap (λ (k : Kept). k.told) c.self.view_is)
    c.is_router.ensures c.in_ok-advert.ensures c.moment-now.ensures c.len.ensures c.room_beside-room.ensures c.as_slice.ensures
    c.in_ok-infos.ensures.infos c.in_ok-infos.ensures.told c.in_ok-bytes.ensures.written

pub returns-clause-short : goal.returns-clause-short
returns-clause-short c = is_short c.few_are_kept.ensures c.args.self.now c.args.at c.args.options c.in_ok-bytes.field-0 c.in_ok-infos.departures (returns-clause-next c)

pub returns-clause-beside : goal.returns-clause-beside
returns-clause-beside c = is_short_beside c.few_are_kept.ensures c.args.self.now c.args.at c.args.options c.in_ok-bytes.field-0 c.in_ok-infos.departures (returns-clause-next c)
