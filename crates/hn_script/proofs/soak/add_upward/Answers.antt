use Rattle.hn_base.proofs.Names.{on_ok_weaker}
use Rattle.hn_script.proofs.SoakTexts.{first_attach_line, adds_one, adds_no_upward, adds_upward}
use Rattle.hn_script.proofs.soak.add_upward.Goals as goal

pub returns-then-k-eq1 : goal.returns-then-k-eq1
returns-then-k-eq1 c = adds_no_upward c.args.k c.args.lines.now c.if-k-eq1.true

pub returns : goal.returns
returns c =
    on_ok_weaker c.push.result
    (λ added. adds_upward c.args.k _ _ c.if-k-eq1.false (adds_one _ _ _ _ (first_attach_line _ _ _ _ c.requires c.in_ok-link.ensures) added)) c.push.ensures.ok
