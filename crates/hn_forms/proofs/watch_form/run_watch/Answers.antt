use Rattle.hn_base.proofs.Names.{inl, inr, arith}
use Rattle.hn_forms.proofs.Captures.{capture_passes}
use Rattle.hn_forms.proofs.watch_form.run_watch.Goals as goal

pub returns-clause-complete : goal.returns-clause-complete
returns-clause-complete g c datagrams is refused =
    let written = c.write_watched.ensures.written (inr refused) in
    elim written.1 [
      | inl done ↦ let zero = done.0 in absurd (omega arith)
      | inr told ↦ absurd (capture_passes c.args.source.now written.0 datagrams is told.1)
    ]
