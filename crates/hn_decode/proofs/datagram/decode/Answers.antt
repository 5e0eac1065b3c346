use Rattle.hn_base.proofs.Names.{List, ℕ, ◌++◌, refl, ap, ◌∙◌, append_assoc, err_from_is_err_and}
use Rattle.hn_decode.proofs.Names.{TlvFault, FirstFault, tlvs_line}
use Rattle.hn_base.proofs.Results.{tells_passed, tells_unfound}
use Rattle.hn_tlv.specs.declared.list_fault.ListFault.TheVariants.{Malformed}
use Rattle.hn_decode.proofs.datagram.decode.Goals as goal

pub returns-in_err-count-clause-malformed : goal.returns-in_err-count-clause-malformed
returns-in_err-count-clause-malformed c = λ place why.
    let passed = err_from_is_err_and c.from_residual.result c.from_residual.ensures.1 in
    tells_passed Malformed (λ (f : TlvFault). FirstFault c.args.bytes.now f.place f.why) (λ f g e. cc)
    c.from_residual.result c.in_err-count.field-0.0 (rw (passed.1, passed.2) refl) c.in_err-count.ensures.fault
    (λ f. c.in_err-count.ensures.at_fault f.place f.why) (record { place = place; why = why })

pub returns-in_err-out-clause-malformed : goal.returns-in_err-out-clause-malformed
returns-in_err-out-clause-malformed c = λ place why.
    let passed = err_from_is_err_and c.from_residual-in_err-out.result c.from_residual-in_err-out.ensures.1 in
    tells_unfound Malformed (λ (f : TlvFault). FirstFault c.args.bytes.now f.place f.why) c.from_residual-in_err-out.result _
    (λ g e. cc) (λ f. c.in_ok-count.ensures.at_fault f.place f.why) (record { place = place; why = why })

pub returns-in_err-at-clause-malformed : goal.returns-in_err-at-clause-malformed
returns-in_err-at-clause-malformed c = λ place why.
    let passed = err_from_is_err_and c.from_residual-in_err-at.result c.from_residual-in_err-at.ensures.1 in
    tells_unfound Malformed (λ (f : TlvFault). FirstFault c.args.bytes.now f.place f.why) c.from_residual-in_err-at.result _
    (λ g e. cc) (λ f. c.in_ok-count.ensures.at_fault f.place f.why) (record { place = place; why = why })

pub loop-at-preserved : goal.loop-at-preserved
loop-at-preserved c =
    let so_far = c.loop-at.invariant in
    let more = c.in_ok-at.ensures.lines in
    let first : List ℕ = tlvs_line c.in_ok-count.count in (
      so_far.0 ++ more.0,
      more.1 so_far.0 so_far.1,
      more.2 ∙ ap (λ (z : List ℕ). z ++ more.0) so_far.2 ∙ append_assoc first so_far.0 more.0,
    )

pub returns-clause-malformed : goal.returns-clause-malformed
returns-clause-malformed c = λ place why.
    tells_unfound Malformed (λ (f : TlvFault). FirstFault c.args.bytes.now f.place f.why) _ _ (λ g e. cc) (λ f. c.in_ok-count.ensures.at_fault f.place f.why) (record { place = place; why = why })
