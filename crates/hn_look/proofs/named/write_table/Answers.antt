use Rattle.hn_base.proofs.Names.{sym, subst, name_text}
use Rattle.hn_look.proofs.Names.{Says, SeesTable, IsTableText}
use Rattle.hn_look.proofs.Looks.{looked_as, table_said}
use Rattle.hn_look.proofs.named.write_table.Goals as goal

pub returns-clause-looked : goal.returns-clause-looked
returns-clause-looked g c =
    let name = name_text c.args.name.now in
    let w = c.args.world.now.parts in
    let m = c.in-Some.member.now in
    let holds = subst (IsTableText name m) (sym c.as_str.ensures.value) c.in-Ok.ensures in
    looked_as (Unit {0}) (Says c.as_str.result.now) (SeesTable name w)
    (λ status more said. table_said name w m c.as_str.result.now more status (sym (rw c.in-Some.is at c.member.ensures)) holds said) c.say.result _ _ c.say.ensures.looked
