use Rattle.hn_base.proofs.Names.{Err, refl, ap}
use Rattle.hn_lab.proofs.Names.{same_error, Playing, Leaves, OtherEnds, stage_of, stream_words, SyncEnds}
use Rattle.hn_script.specs.declared.line.Line.TheVariants as line
use Rattle.hn_play.proofs.RunAnswers.{answer_on}
use Rattle.hn_play.proofs.RunEvents.{same_stage}
use Rattle.hn_play.proofs.RunStops.{nothing_left}
use Rattle.hn_lab.proofs.RunSyncs.{not_first, not_synced}
use Rattle.hn_world.specs.SeenWorld.{SeenWorld}
use Rattle.hn_lab.proofs.syncing.sync.Goals as goal

pub returns-in_err-sync : goal.returns-in_err-sync
returns-in_err-sync c route text =
    let m = c.args.a.now in
    let n = c.args.b.now in
    let why = c.in_err-sync.field-0.0 in
    let now = c.args.playing.now in
    let q : Playing = record { world = c.sync.new.self; loss = now.loss; words = c.sync.new.draw; senders = now.senders; room = now.room } in
    let p = stage_of now route text in
    let a = stage_of q route text in
    answer_on (SyncEnds m n) (OtherEnds (line.Sync m n)) p p a (λ code h. h) (Leaves (SyncEnds m n)) (Leaves (OtherEnds (line.Sync m n))) why c.from_residual.result
    c.from_residual.ensures.1 (not_synced m n why p a
    (λ code is. let first = c.in_err-sync.ensures.first code is in (same_error _ _ first.0, same_stage p a (ap (λ (w : SeenWorld). w.parts) first.1) refl (ap stream_words first.2) refl refl refl))
    (λ code is same. record { ends = c.in_err-sync.ensures.later code is (ap Err same); loss = refl; route = refl; senders = refl; text = refl }))

pub returns : goal.returns
returns c route text =
    let m = c.args.a.now in
    let n = c.args.b.now in
    let now = c.args.playing.now in
    let q : Playing = record { world = c.sync.new.self; loss = now.loss; words = c.sync.new.draw; senders = now.senders; room = now.room } in
    let p = stage_of now route text in
    let a = stage_of q route text in
    nothing_left (OtherEnds (line.Sync m n)) c.new.result p a c.new.ensures (
      p,
      (not_first _ _ (λ code is. (c.in_ok-sync.ensures.first code is).0), refl),
      (record { ends = c.in_ok-sync.ensures.ok; loss = refl; route = refl; senders = refl; text = refl }, c.in_ok-sync.ensures.repairs),
    )
