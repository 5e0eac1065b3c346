use Rattle.hn_base.proofs.Names.{◌≡◌, Appends}
use Rattle.hn_forms.proofs.WatchTexts.{text_to}
use Rattle.hn_forms.proofs.watch_form.write_text.Given as goal

-- the first line and those of the nodes so far were written
abbrev pub invariant-loop-one : goal.invariant-loop-one
invariant-loop-one g l =
    let sink = g.K.Sink in
    record {
      written : Appends (sink.held l.fn.out) (sink.held l.out) (text_to l.datagrams l.malformed l.seen l.one-index);
      no_fault : sink.faults l.out ≡ sink.faults l.fn.out;
      reliable : sink.never_fails l.fn.out → sink.never_fails l.out;
    }
