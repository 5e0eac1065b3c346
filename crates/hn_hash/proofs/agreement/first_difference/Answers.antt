use Rattle.hn_base.proofs.Names.{rules, YieldsList-from_slice, YieldsList-from_zip}
use Rattle.std.proofs.lemmas.Iterator.{IsFirst-from_position}
use Rattle.hn_hash.proofs.FirstDifference.{HaveSameBody, HaveOtherBodies, first_from_zip}
use Rattle.hn_hash.proofs.agreement.first_difference.Goals as goal

pub returns : goal.returns
returns c =
    let first = first_from_zip c.args.a.now c.args.b.now c.requires c.position.result
    (IsFirst-from_position c.position.new.self _ _ HaveOtherBodies HaveSameBody c.position.ensures.ran
    (YieldsList-from_zip (YieldsList-from_slice c.args.a.now cc) (YieldsList-from_slice c.args.b.now cc))
    (λ x q k. search rules)
    (λ x q k. search rules))
    in
    record { found = first.0; none = first.1 }
