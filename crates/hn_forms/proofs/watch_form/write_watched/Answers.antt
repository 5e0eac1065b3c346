use Rattle.hn_base.proofs.Names.{◌∙◌, Err, inl, inr, refl, sym, ap, ⊎_elim, lit<}
use Rattle.hn_forms.proofs.Names.{refused_line}
use Rattle.hn_forms.proofs.Streams.{cut_on_err}
use Rattle.hn_forms.proofs.Captures.{watched, faulty}
use Rattle.hn_forms.proofs.Cut.{broken_of_written, starved_of_written, written_whole, done_of}
use Rattle.hn_forms.proofs.watch_form.write_watched.Goals as goal

pub returns-then-source-gt-SOURCE_LIMIT-clause-broken : goal.returns-then-source-gt-SOURCE_LIMIT-clause-broken
returns-then-source-gt-SOURCE_LIMIT-clause-broken g c failed =
    let cut = cut_on_err c.write_refusal.result _ _ (refused_line 0 15) c.write_refusal.ensures.cut in
    (2, refused_line 0 15, inr (refl, inl (c.if-source-gt-SOURCE_LIMIT.true, refl)), broken_of_written c.write_refusal.result 2 _ (lit< tt) cut (rw c.written_status.ensures at failed))

pub returns-then-source-gt-SOURCE_LIMIT-clause-starved : goal.returns-then-source-gt-SOURCE_LIMIT-clause-starved
returns-then-source-gt-SOURCE_LIMIT-clause-starved g c starved =
    let cut = cut_on_err c.write_refusal.result _ _ (refused_line 0 15) c.write_refusal.ensures.cut in
    inr (2, refused_line 0 15, inr (refl, inl (c.if-source-gt-SOURCE_LIMIT.true, refl)), starved_of_written c.write_refusal.result 2 _ (lit< tt) cut (rw c.written_status.ensures at starved))

pub returns-in-Ok-clause-broken : goal.returns-in-Ok-clause-broken
returns-in-Ok-clause-broken g c failed =
    let told = c.write_watch.ensures.broken failed in
    (0, told.0, inl (refl, watched c.args.source.now told.0 c.in-Ok.watch c.if-source-gt-SOURCE_LIMIT.false c.in-Ok.ensures.read told.1), told.2)

pub returns-in-Ok-clause-starved : goal.returns-in-Ok-clause-starved
returns-in-Ok-clause-starved g c starved =
    elim (c.write_watch.ensures.starved starved) [
      | inl nothing ↦ inl nothing
      | inr told ↦ inr (0, told.0, inl (refl, watched c.args.source.now told.0 c.in-Ok.watch c.if-source-gt-SOURCE_LIMIT.false c.in-Ok.ensures.read told.1), told.2)
    ]

pub returns-in-Ok-clause-written : goal.returns-in-Ok-clause-written
returns-in-Ok-clause-written g c good =
    let told = c.write_watch.ensures.written (done_of c.write_watch.result c.write_watch.ensures.statuses good) in (
      told.0,
      inl (
        done_of c.write_watch.result c.write_watch.ensures.statuses good,
        watched c.args.source.now told.0 c.in-Ok.watch c.if-source-gt-SOURCE_LIMIT.false c.in-Ok.ensures.read told.1,
      ),
      told.2,
    )

pub returns-in-Err-Script-clause-written : goal.returns-in-Err-Script-clause-written
returns-in-Err-Script-clause-written g c good =
    let fault = c.in-Err-Script.fault in
    let refused = faulty c.args.source.now fault c.if-source-gt-SOURCE_LIMIT.false (c.in-Err-Script.ensures.refused fault (ap Err c.in-Err-Script.field-0-is)) in
    let told = written_whole c.write_refusal-in-Err-Script.result 2 _ c.write_refusal-in-Err-Script.ensures.ok
    (⊎_elim (λ done. inl (sym c.written_status-in-Err-Script.ensures ∙ done)) (λ two. inr (sym c.written_status-in-Err-Script.ensures ∙ two)) good) in
    (refused_line fault.line fault.code, inr (c.written_status-in-Err-Script.ensures ∙ told.0, refused), told.1)

pub returns-in-Err-Script-clause-broken : goal.returns-in-Err-Script-clause-broken
returns-in-Err-Script-clause-broken g c failed =
    let fault = c.in-Err-Script.fault in
    let refused = faulty c.args.source.now fault c.if-source-gt-SOURCE_LIMIT.false (c.in-Err-Script.ensures.refused fault (ap Err c.in-Err-Script.field-0-is)) in
    let line = refused_line fault.line fault.code in
    let cut = cut_on_err c.write_refusal-in-Err-Script.result _ _ line c.write_refusal-in-Err-Script.ensures.cut in
    (2, line, inr (refl, refused), broken_of_written c.write_refusal-in-Err-Script.result 2 _ (lit< tt) cut (rw c.written_status-in-Err-Script.ensures at failed))

pub returns-in-Err-Script-clause-starved : goal.returns-in-Err-Script-clause-starved
returns-in-Err-Script-clause-starved g c starved =
    let fault = c.in-Err-Script.fault in
    let refused = faulty c.args.source.now fault c.if-source-gt-SOURCE_LIMIT.false (c.in-Err-Script.ensures.refused fault (ap Err c.in-Err-Script.field-0-is)) in
    let line = refused_line fault.line fault.code in
    let cut = cut_on_err c.write_refusal-in-Err-Script.result _ _ line c.write_refusal-in-Err-Script.ensures.cut in
    inr (2, line, inr (refl, refused), starved_of_written c.write_refusal-in-Err-Script.result 2 _ (lit< tt) cut (rw c.written_status-in-Err-Script.ensures at starved))
