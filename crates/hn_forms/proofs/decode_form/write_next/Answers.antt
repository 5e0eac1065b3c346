use Rattle.hn_base.proofs.Names.{◌≡◌, ◌∙◌, [], ◌++◌, ap}
use Rattle.hn_forms.proofs.Names.{append-nil}
use Rattle.hn_forms.proofs.Streams.{AppendsFront-none}
use Rattle.hn_forms.proofs.decode_form.write_next.Goals as goal

pub returns-in_ok-write_lines-in-Ok-clause-written : goal.returns-in_ok-write_lines-in-Ok-clause-written
returns-in_ok-write_lines-in-Ok-clause-written g c =
    let added = c.in-Ok.ensures.lines in
    let text : c.as_bytes.result.now ≡ added.0 = c.as_bytes.ensures.value ∙ added.2 ∙ ap (λ xs. xs ++ added.0) c.clear.ensures.bytes in
    (added.0, added.1, rw text at c.in_ok-write_lines-in-Ok.ensures.ok)

pub returns-in-Err-clause-cut : goal.returns-in-Err-clause-cut
returns-in-Err-clause-cut g c = (
  c.args.at,
  [],
  λ lines so_far. rw append-nil so_far,
  AppendsFront-none (g.K.Sink.held c.args.out.now) [],
)
