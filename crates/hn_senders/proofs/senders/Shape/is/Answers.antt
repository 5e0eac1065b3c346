use Rattle.hn_base.proofs.Names.{◌≡◌, true, false, sym, ◌∙◌, slice_eq-Decides}
use Rattle.std.specs.Prelude.{Decides}
use Rattle.hn_senders.proofs.Sendings.{shape_told}
use Rattle.hn_senders.proofs.senders.Shape.is.Goals.{then-self-other, else-self-other, then-self-other-2, else-self-other-2}
use Rattle.hn_base.proofs.Prefixes.{prefix_decided}
use Rattle.hn_senders.proofs.senders.Shape.is.Goals as goal

prefixes : (c : goal.After-eq) → Decides c.eq.result (c.args.self.now.prefixes ≡ c.args.other.now.prefixes)
prefixes c =
    let decided = slice_eq-Decides prefix_decided c.as_slice.result.now c.as_slice-then-self-other-3.result.now c.eq.result c.eq.ensures in
    (λ is. sym c.as_slice.ensures ∙ decided.0 is ∙ c.as_slice-then-self-other-3.ensures, λ same. decided.1 (c.as_slice.ensures ∙ same ∙ sym c.as_slice-then-self-other-3.ensures))

pub returns-then-self-other-3 : goal.returns-then-self-other-3
returns-then-self-other-3 c =
    elim c.if-self-other-2.branch [
      | then-self-other-2 w ↦ elim c.if-self-other.branch [
        | then-self-other v ↦
            shape_told c.args.self.now c.args.other.now c.eq.result v.if-self-other.true (sym v.value-is ∙ w.if-self-other-2.true) (sym w.value-is ∙ c.if-self-other-3.true) (prefixes c)
        | else-self-other v ↦
            let no : false ≡ true = sym v.if-self-other.false ∙ sym v.value-is ∙ w.if-self-other-2.true in absurd cc
      ]
      | else-self-other-2 w ↦ let no : c.if-self-other-2.value ≡ false = w.value-is ∙ w.if-self-other-2.false in absurd cc
    ]
