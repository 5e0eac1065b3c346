use Rattle.hn_base.proofs.Names.{sym, subst, name_text}
use Rattle.hn_look.proofs.Names.{Says, SeesWhy, IsWhy}
use Rattle.hn_look.proofs.Looks.{looked_as, why_said}
use Rattle.hn_look.proofs.named.write_why.Goals as goal

pub returns-clause-looked : goal.returns-clause-looked
returns-clause-looked g c =
    let name = name_text c.args.name.now in
    let w = c.args.world.now.parts in
    let holds = subst (IsWhy name w) (sym c.as_str.ensures.value) c.in-Ok.ensures in
    looked_as (Unit {0}) (Says c.as_str.result.now) (SeesWhy name w)
    (λ status more said. why_said name w c.as_str.result.now more status (sym c.in_default.ensures) holds said) c.say.result _ _ c.say.ensures.looked
