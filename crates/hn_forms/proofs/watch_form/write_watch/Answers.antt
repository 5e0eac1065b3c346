use Rattle.hn_base.proofs.Names.{◌∙◌, List, inr, ap, lit<}
use Rattle.hn_forms.proofs.Names.{Seen, fed_of, watch_text}
use Rattle.hn_forms.proofs.Cut.{starved_of_written}
use Rattle.hn_forms.proofs.watch_form.write_watch.Goals as goal

pub returns-in-Ok-clause-starved : goal.returns-in-Ok-clause-starved
returns-in-Ok-clause-starved g c starved =
    let watch = c.args.watch.now in
    let told = starved_of_written c.write_text-written.result 0 _ (lit< tt) c.write_text-written.ensures.cut (rw c.written_status.ensures at starved) in
    let text = watch_text c.fed.result c.malformed.result c.as_slice.result.now in
    let is = ap (λ (s : List Seen). watch_text c.fed.result c.malformed.result s) c.as_slice.ensures
    ∙ ap (λ n. watch_text n c.malformed.result c.in-Ok.seen) c.fed.ensures ∙ ap (λ n. watch_text (fed_of watch) n c.in-Ok.seen) c.malformed.ensures in
    inr (text, record { seen = c.in-Ok.seen; are_seen = c.in-Ok.ensures; text_is = is }, told)
