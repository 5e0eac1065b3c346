use Rattle.hn_base.proofs.Names.{ℕ, inr, subst}
use Rattle.hn_forms.proofs.Names.{IsDecodeOf}
use Rattle.hn_forms.proofs.Spelled.{not_refused}
use Rattle.hn_forms.proofs.decode_form.run_decode.Goals as goal

pub returns-clause-complete : goal.returns-clause-complete
returns-clause-complete g c spells refused =
    let source = c.args.source.items in
    let written = c.write_decoded.ensures.written (inr refused) in
    let P : ℕ → Type 0 = λ status. IsDecodeOf source status written.0 in
    not_refused c.first_fault_is_unique.ensures.no_list source written.0 spells (subst P refused written.1)
