use Rattle.hn_base.proofs.Names.{◌≡◌, ◌⊎◌, rules}
use Rattle.hn_look.proofs.Names.{world_parts}
use Rattle.hn_look.proofs.Looks.{status_of_look, without_wire}
use Rattle.hn_look.specs.Look.{Sees, MayStarve}
use Rattle.hn_look.proofs.Refusals.{ends_so, looked_at, unseen}
use Rattle.hn_look.proofs.program.play_and_look.Goals as goal

pub returns-then-played-ne-REFUSED-clause-look : goal.returns-then-played-ne-REFUSED-clause-look
returns-then-played-ne-REFUSED-clause-look g c good =
    let status = c.lab_by_mail-played.result.status in
    let six : status ≡ 6 = search rules in
    unseen _ _ (g.S.Source.left c.args.src.now) (world_parts c.lab_by_mail-played.result.world) status _ _ (g.K.Sink.held c.args.out.now) c.new-transcript.ensures
    (c.lab_by_mail-played.ensures.lab good) six

pub returns-then-played-ne-REFUSED-clause-statuses : goal.returns-then-played-ne-REFUSED-clause-statuses
returns-then-played-ne-REFUSED-clause-statuses g c =
    without_wire c.lab_by_mail-played.result.status c.lab_by_mail-played.ensures.statuses c.lab_by_mail-played.ensures.unwired

pub look-requires-clause-refused : goal.look-requires-clause-refused
look-requires-clause-refused g c = λ two. ends_so _ (world_parts c.lab_by_mail-played.result.world) c.lab_by_mail-played.result.status _ c.lab_by_mail-played.new.out c.new-transcript.ensures
    c.lab_by_mail-played.ensures.lab two

pub returns-clause-statuses : goal.returns-clause-statuses
returns-clause-statuses g c = rw c.looked_status.ensures (status_of_look c.look.result c.look.ensures.statuses)

pub returns-clause-look : goal.returns-clause-look
returns-clause-look g c good =
    let status = c.lab_by_mail-played.result.status in
    let ended : (status ≡ 0) ⊎ (status ≡ 2) = search rules in
    looked_at (MayStarve c.args.form.now) (Sees c.args.form.now) (g.S.Source.left c.args.src.now) (world_parts c.lab_by_mail-played.result.world) status _ _
    (g.K.Sink.held c.args.out.now) (g.K.Sink.held c.look.new.out) c.looked_status.result c.look.result c.new-transcript.ensures c.lab_by_mail-played.ensures.lab ended
    c.looked_status.ensures c.look.ensures.looked
