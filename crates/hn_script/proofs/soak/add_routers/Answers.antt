use Rattle.hn_script.proofs.Names.{router_texts}
use Rattle.hn_script.proofs.SoakTexts.{adds_none, adds_more, adds_end}
use Rattle.hn_script.proofs.soak.add_routers.Goals as goal

pub loop-k-init : goal.loop-k-init
loop-k-init c = adds_none c.args.lines.now

pub loop-k-preserved : goal.loop-k-preserved
loop-k-preserved c = adds_more c.loop-k.k router_texts _ _ _ c.loop-k.invariant c.in_ok-add_router.ensures

pub returns : goal.returns
returns c = adds_end c.loop-k.k c.args.n router_texts _ _ c.loop-k.auto.k-end c.loop-k-test.false c.loop-k.invariant
