use Rattle.hn_base.proofs.Names.{◌∙◌, ap, refl, sym, option_map, map-append}
use Rattle.hn_audit.proofs.Names.{plain_spot, plain_spots, spot_at}
use Rattle.hn_audit.proofs.Spotting.{given_more, passed_more}
use Rattle.hn_audit.proofs.spots.add_spots.Goals.{in-Some+in_ok-push, in_default}
use Rattle.hn_audit.proofs.spots.add_spots.Goals as goal

pub loop-a-preserved : goal.loop-a-preserved
loop-a-preserved c = record {
  all = c.loop-a.invariant.all;
  so_far =
      elim c.match-spot.branch [
        | in-Some+in_ok-push w ↦ given_more (spot_at c.args.member.now) c.as_slice-a-items.result.now c.loop-a.a-index _
            (record { endpoint = record { 0 = 0 }; link = 0 }) (plain_spot w.in-Some.spot) (plain_spots c.args.spots.now.items)
            (plain_spots c.loop-a.spots.items) (plain_spots c.match-spot.spots.items) c.loop-a-test.true refl
            (sym c.spot_at-spot.ensures ∙ ap (option_map plain_spot) w.in-Some.is) c.loop-a.invariant.so_far
            (ap (λ p. plain_spots p.items) w.spots-is ∙ ap plain_spots w.in_ok-push.ensures.items ∙ map-append plain_spot c.loop-a.spots.items _)
        | in_default w ↦ passed_more (spot_at c.args.member.now) c.as_slice-a-items.result.now c.loop-a.a-index _
            (record { endpoint = record { 0 = 0 }; link = 0 }) (plain_spots c.args.spots.now.items) (plain_spots c.loop-a.spots.items)
            (plain_spots c.match-spot.spots.items) c.loop-a-test.true refl
            (sym c.spot_at-spot.ensures ∙ ap (option_map plain_spot) w.in_default.is) c.loop-a.invariant.so_far (ap (λ p. plain_spots p.items) w.spots-is)
      ];
}
