use Rattle.hn_base.proofs.Names.{refl, err_from_is_err_and}
use Rattle.hn_base.proofs.Results.{tells_passed, tells_unfound}
use Rattle.hn_tlv.specs.declared.fault.TlvFault.{TlvFault}
use Rattle.hn_tlv.specs.declared.list_fault.ListFault.TheVariants.{Malformed}
use Rattle.hn_tlv.specs.Grammar.{FirstFault}
use Rattle.hn_data.proofs.node_data.NodeData.from_bytes.Goals as goal

pub returns-in_err-check-clause-refused : goal.returns-in_err-check-clause-refused
returns-in_err-check-clause-refused c = λ place why.
    let passed = err_from_is_err_and c.from_residual.result c.from_residual.ensures.1 in
    tells_passed Malformed (λ (f : TlvFault). FirstFault c.args.bytes.now f.place f.why) (λ f g e. cc) c.from_residual.result c.in_err-check.field-0.0
    (rw (passed.1, passed.2) refl) c.in_err-check.ensures.fault (λ f. c.in_err-check.ensures.at_fault f.place f.why) (record { place = place; why = why })

pub returns-in_err-copy-clause-refused : goal.returns-in_err-copy-clause-refused
returns-in_err-copy-clause-refused c = λ place why.
    let passed = err_from_is_err_and c.from_residual-in_err-copy.result c.from_residual-in_err-copy.ensures.1 in
    tells_unfound Malformed (λ (f : TlvFault). FirstFault c.args.bytes.now f.place f.why) c.from_residual-in_err-copy.result _ (λ g e. cc)
    (λ f. c.in_ok-check.ensures.at_fault f.place f.why) (record { place = place; why = why })

pub returns-in_err-read_data-clause-refused : goal.returns-in_err-read_data-clause-refused
returns-in_err-read_data-clause-refused c = λ place why.
    let passed = err_from_is_err_and c.from_residual-in_err-read_data.result c.from_residual-in_err-read_data.ensures.1 in
    tells_unfound Malformed (λ (f : TlvFault). FirstFault c.args.bytes.now f.place f.why) c.from_residual-in_err-read_data.result _ (λ g e. cc)
    (λ f. c.in_ok-check.ensures.at_fault f.place f.why) (record { place = place; why = why })

pub returns-clause-refused : goal.returns-clause-refused
returns-clause-refused c = λ place why.
    tells_unfound Malformed (λ (f : TlvFault). FirstFault c.args.bytes.now f.place f.why) _ _ (λ g e. cc) (λ f. c.in_ok-check.ensures.at_fault f.place f.why) (record { place = place; why = why })
