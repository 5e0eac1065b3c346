use Rattle.hn_base.proofs.Names.{on_ok_weaker}
use Rattle.hn_script.specs.Soak.{router_texts}
use Rattle.hn_script.proofs.SoakTexts.{router_line, second_attach_line, adds_one, adds_both, adds_then}
use Rattle.hn_script.proofs.soak.add_router.Goals as goal

pub returns : goal.returns
unfolding router_texts
returns c =
    let name = c.in_ok-name.ensures in
    let first = adds_one _ _ _ _ (router_line _ _ c.args.k c.ranges.k.fits name) c.in_ok-push.ensures.ok in
    let both = adds_both _ _ _ _ _ first c.in_ok-add_upward.ensures in
    on_ok_weaker c.push-2.result (λ added. adds_then _ _ _ _ _ _ both (second_attach_line _ _ _ _ name c.in_ok-link.ensures) added) c.push-2.ensures.ok
