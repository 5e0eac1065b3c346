use Rattle.hn_script.specs.Soak.{link_texts}
use Rattle.hn_script.proofs.SoakTexts.{link_line, adds_none, adds_one, adds_more, adds_end}
use Rattle.hn_script.proofs.soak.add_links.Goals as goal

pub loop-k-init : goal.loop-k-init
loop-k-init c = adds_none c.args.lines.now

pub loop-k-preserved : goal.loop-k-preserved
unfolding link_texts
loop-k-preserved c =
    let one = adds_one _ _ _ _ (link_line c.in_ok-name.name _ c.in_ok-name.ensures) c.in_ok-push.ensures.ok in
    adds_more c.loop-k.k link_texts _ _ _ c.loop-k.invariant one

pub returns : goal.returns
returns c = adds_end c.loop-k.k c.args.n link_texts _ _ c.loop-k.auto.k-end c.loop-k-test.false c.loop-k.invariant
