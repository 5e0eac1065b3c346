use Rattle.hn_base.proofs.Names.{on_ok_weaker}
use Rattle.hn_script.specs.Soak.{chance_texts}
use Rattle.hn_script.proofs.SoakTexts.{seed_line, loss_line, adds_one, adds_then}
use Rattle.hn_script.proofs.soak.add_chance.Goals as goal

pub returns : goal.returns
unfolding chance_texts
returns c =
    let seed = adds_one _ _ _ _ (seed_line c.args.seed c.ranges.seed.fits) c.in_ok-push.ensures.ok in
    on_ok_weaker c.push-2.result (λ added. adds_then _ _ _ _ _ _ seed loss_line added) c.push-2.ensures.ok
