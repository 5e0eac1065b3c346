use Rattle.hn_base.proofs.Names.{arith, rules, YieldsList-from_slice, YieldsList-from_zip}
use Rattle.std.proofs.lemmas.Iterator.{same_from_all}
use Rattle.hn_hash.proofs.agreement.are_same.Goals as goal

pub returns-then-a-b : goal.returns-then-a-b
returns-then-a-b c =
    same_from_all c.all.new.self _ _ c.args.a.now c.args.b.now c.all.ensures.ran
    (YieldsList-from_zip (YieldsList-from_slice c.args.a.now cc) (YieldsList-from_slice c.args.b.now cc))
    (omega (arith, c.if-a-b.true))
    (λ x q k. search rules)
    (λ x q k. search rules)
