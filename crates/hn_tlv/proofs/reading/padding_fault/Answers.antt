use Rattle.hn_base.proofs.Names.{◌≡◌, ◌<◌, ◌≤◌, get_or, length, inl, inr, sym, ◌∙◌, ltb-true, ltb-false, get_or_default}
use Rattle.hn_tlv.proofs.PadBytes.{ends_here, breaks_here}
use Rattle.hn_tlv.proofs.reading.padding_fault.Goals as goal
use Rattle.hn_tlv.proofs.reading.padding_fault.Goals.{in-Some, in-None}

pub returns-in-loop-place-clause-found : goal.returns-in-loop-place-clause-found
returns-in-loop-place-clause-found c =
    let bytes = c.args.bytes.now in
    let place = c.loop-place.place in (
      c.loop-place-test.true,
      elim c.match-get.branch [
        | in-Some w ↦
            let found = w.in-Some.ensures.lookup in
            let byte = w.in-Some.field-0.now in
            let here : place < length bytes = ltb-true _ _ (sym found.0) in
            let is : get_or bytes place 0 ≡ byte = sym (found.1 ∙ get_or_default bytes place byte 0 here) in
            inr (w.why-is, breaks_here bytes place byte c.loop-place.invariant here is w.in-Some.field-0-test.1)
        | in-None w ↦
            let past : length bytes ≤ place = ltb-false _ _ (sym w.in-None.ensures.lookup.0) in
            inl (w.why-is, ends_here bytes place c.loop-place.invariant past)
      ],
    )
