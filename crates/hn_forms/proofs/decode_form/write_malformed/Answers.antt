use Rattle.hn_base.proofs.Names.{◌∙◌}
use Rattle.hn_forms.proofs.Names.{malformed_line}
use Rattle.hn_forms.proofs.Streams.{cut_on_err}
use Rattle.hn_forms.proofs.decode_form.write_malformed.Goals as goal

pub returns-in-Ok-clause-cut : goal.returns-in-Ok-clause-cut
returns-in-Ok-clause-cut g c =
    let fault = c.args.fault in
    let line = c.as_bytes.ensures.value ∙ c.in-Ok.ensures in
    cut_on_err c.write_piece.result _ _ (malformed_line fault.place fault.why) (rw line at c.write_piece.ensures.cut)
