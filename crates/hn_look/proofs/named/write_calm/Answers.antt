use Rattle.hn_base.proofs.Names.{◌∙◌, sym, subst, name_text}
use Rattle.hn_look.proofs.Names.{Says, SeesCalm}
use Rattle.hn_calm.specs.Text.{IsCalmText}
use Rattle.hn_look.proofs.Looks.{looked_as, calm_said}
use Rattle.hn_look.proofs.named.write_calm.Goals as goal

pub returns-clause-looked : goal.returns-clause-looked
returns-clause-looked g c =
    let name = name_text c.args.name.now in
    let w = c.args.world.now.parts in
    let holds = subst (IsCalmText name w) (sym c.as_str.ensures.value) c.in-Ok.ensures in
    looked_as (Unit {0}) (Says c.as_str.result.now) (SeesCalm name w)
    (λ status more said. calm_said name w c.as_str.result.now more status (sym c.unless_runs-refused.ensures ∙ c.in_default.is) holds said) c.say.result _ _ c.say.ensures.looked
