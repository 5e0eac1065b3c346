use Rattle.hn_base.proofs.Names.{◌∙◌, inl, inr, refl, sym, arith, lit<}
use Rattle.hn_forms.proofs.Names.{refused_line}
use Rattle.hn_forms.proofs.Streams.{AppendsFront-none, cut_on_err}
use Rattle.hn_forms.proofs.Cut.{broken_of_written, starved_of_written}
use Rattle.hn_forms.proofs.decode_form.write_decoded.Goals as goal

pub returns-then-len-gt-SOURCE_LIMIT-clause-broken : goal.returns-then-len-gt-SOURCE_LIMIT-clause-broken
returns-then-len-gt-SOURCE_LIMIT-clause-broken g c failed =
    let cut = cut_on_err c.write_refusal.result _ _ (refused_line 0 15) c.write_refusal.ensures.cut in
    (2, refused_line 0 15, inl (refl, inl (omega arith, refl)), broken_of_written c.write_refusal.result 2 _ (lit< tt) cut (rw c.written_status.ensures at failed))

pub returns-then-len-gt-SOURCE_LIMIT-clause-starved : goal.returns-then-len-gt-SOURCE_LIMIT-clause-starved
returns-then-len-gt-SOURCE_LIMIT-clause-starved g c starved =
    let cut = cut_on_err c.write_refusal.result _ _ (refused_line 0 15) c.write_refusal.ensures.cut in
    (2, refused_line 0 15, inl (refl, inl (omega arith, refl)), starved_of_written c.write_refusal.result 2 _ (lit< tt) cut (rw c.written_status.ensures at starved))

pub returns-in-Ok-clause-broken : goal.returns-in-Ok-clause-broken
returns-in-Ok-clause-broken g c failed =
    let told = c.write_contents.ensures.broken failed in
    (told.0, told.1, inr (record { octets = c.in-Ok.octets.items; short = omega arith; hex_text = c.in-Ok.ensures.octets; contents = rw (← c.deref.ensures.value) told.2 }), told.3)

pub returns-in-Ok-clause-starved : goal.returns-in-Ok-clause-starved
returns-in-Ok-clause-starved g c starved =
    let told = c.write_contents.ensures.starved starved in
    (told.0, told.1, inr (record { octets = c.in-Ok.octets.items; short = omega arith; hex_text = c.in-Ok.ensures.octets; contents = rw (← c.deref.ensures.value) told.2 }), told.3)

pub returns-else-is_out_of_memory-clause-broken : goal.returns-else-is_out_of_memory-clause-broken
returns-else-is_out_of_memory-clause-broken g c failed =
    let cut = cut_on_err c.write_refusal-in-Err.result _ _ (refused_line 0 4) c.write_refusal-in-Err.ensures.cut in (
      2,
      refused_line 0 4,
      inl (refl, inr (omega arith, (c.in-Err.ensures.refused (sym c.is_out_of_memory.ensures ∙ c.if-is_out_of_memory.false)), refl)),
      broken_of_written c.write_refusal-in-Err.result 2 _ (lit< tt) cut (rw c.written_status-in-Err.ensures at failed),
    )

pub returns-else-is_out_of_memory-clause-starved : goal.returns-else-is_out_of_memory-clause-starved
returns-else-is_out_of_memory-clause-starved g c starved =
    let cut = cut_on_err c.write_refusal-in-Err.result _ _ (refused_line 0 4) c.write_refusal-in-Err.ensures.cut in (
      2,
      refused_line 0 4,
      inl (refl, inr (omega arith, (c.in-Err.ensures.refused (sym c.is_out_of_memory.ensures ∙ c.if-is_out_of_memory.false)), refl)),
      starved_of_written c.write_refusal-in-Err.result 2 _ (lit< tt) cut (rw c.written_status-in-Err.ensures at starved),
    )

-- memory ended before anything was decoded
pub returns-then-is_out_of_memory-clause-starved : goal.returns-then-is_out_of_memory-clause-starved
returns-then-is_out_of_memory-clause-starved g c _ =
    let held = g.K.Sink.held c.args.out.now in
    let told = c.each_source_decodes.ensures c.args.source.items in
    (told.0, told.1, told.2, AppendsFront-none held told.1)
