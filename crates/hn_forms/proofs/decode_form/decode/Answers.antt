use Rattle.hn_base.proofs.Names.{[], ◌∷◌, refl, lit<}
use Rattle.hn_forms.proofs.Names.{Failed, NoMemory, WritesDecode, CutsDecode}
use Rattle.hn_forms.proofs.Outcomes.{by_status, decode_read, decode_unread}
use Rattle.hn_forms.proofs.Sources.{Contains-more}
use Rattle.hn_forms.proofs.decode_form.decode.Goals as goal

pub returns-in-Ok-clause-decode : goal.returns-in-Ok-clause-decode
returns-in-Ok-clause-decode g c _ =
    let status = c.run_decode.result in
    let read = c.in-Ok.bytes.items in
    let before = g.K.Sink.held c.args.out.now in
    let after = g.K.Sink.held c.run_decode.new.out in
    let holds = by_status status (WritesDecode read status before after) (CutsDecode read Failed before after)
    (CutsDecode read NoMemory before after) c.run_decode.ensures.statuses c.run_decode.ensures.written c.run_decode.ensures.broken c.run_decode.ensures.starved in
    decode_read (g.S.Source.left c.args.src.now) (g.S.Source.left c.read_all.new.src) read status before after c.in-Ok.ensures.all c.in-Ok.ensures.whole holds c.run_decode.ensures.complete

pub returns-in-Err-NoMemory-clause-decode : goal.returns-in-Err-NoMemory-clause-decode
returns-in-Err-NoMemory-clause-decode g c _ =
    decode_unread c.each_source_decodes.ensures (g.S.Source.left c.args.src.now) 6 (g.K.Sink.held c.args.out.now) refl

pub returns-in-Ok-clause-statuses : goal.returns-in-Ok-clause-statuses
returns-in-Ok-clause-statuses g c = Contains-more (0 ∷ 2 ∷ []) (4 ∷ 6 ∷ []) 3 c.run_decode.result c.run_decode.ensures.statuses

pub returns-in-Err-Failed-clause-statuses : goal.returns-in-Err-Failed-clause-statuses
returns-in-Err-Failed-clause-statuses g c = (2, lit< tt, refl)
