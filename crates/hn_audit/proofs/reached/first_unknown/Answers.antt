use Rattle.hn_base.proofs.Names.{None, refl, arith}
use Rattle.hn_audit.proofs.Names.{NodeId, FindsId}
use Rattle.hn_audit.proofs.Searching.{found_nowhere, none_more}
use Rattle.hn_audit.proofs.reached.first_unknown.Goals as goal

pub loop-id-preserved : goal.loop-id-preserved
loop-id-preserved c =
    let none : NodeId → Type 0 = λ id. FindsId c.args.world.now.parts id None in
    none_more none c.args.reach.now c.loop-id.id-index _ _ c.loop-id.invariant c.loop-id-test.true refl c.in_default.ensures

pub returns : goal.returns
returns c = found_nowhere (FindsId c.args.world.now.parts) c.args.reach.now c.loop-id.id-index c.loop-id.invariant (omega (arith, c.loop-id-test.false))
