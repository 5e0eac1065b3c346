use Rattle.hn_base.proofs.Names.{refl, sym, subst, ◌∙◌, arith, IsNameText}
use Rattle.hn_script.proofs.SoakTexts.{numbered_name}
use Rattle.hn_script.proofs.soak.link_name.Goals as goal

pub named-requires : goal.named-requires
named-requires c =
    subst IsNameText (sym (c.as_bytes.ensures.value ∙ c.in_ok-text.ensures.ok)) (numbered_name 108 c.args.number (omega arith) refl)
