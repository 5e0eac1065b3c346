use Rattle.hn_base.proofs.Names.{◌≡◌, ◌∙◌, List, ℕ, Ok, IfOk, subst}
use Rattle.hn_forms.proofs.Names.{decode_of}
use Rattle.hn_forms.proofs.HexDecoded.{refused_by}
use Rattle.hn_forms.proofs.hex_text.octets_of.Goals as goal

pub returns-clause-octets : goal.returns-clause-octets
returns-clause-octets c =
    subst (λ (xs : List ℕ). IfOk c.decode.result (λ bytes. decode_of xs ≡ Ok bytes.items)) (c.as_slice.ensures.value ∙ c.unblank.ensures) c.decode.ensures.ok

pub returns-clause-refused : goal.returns-clause-refused
returns-clause-refused c = refused_by c.args.text.items c.as_slice.result.now c.decode.result (c.as_slice.ensures.value ∙ c.unblank.ensures) c.decode.ensures.err
