use Rattle.hn_base.proofs.Names.{on_ok_weaker}
use Rattle.hn_script.specs.Soak.{run_texts}
use Rattle.hn_script.proofs.SoakTexts.{first_name, external_line, run_line, adds_one, adds_then}
use Rattle.hn_script.proofs.soak.add_run.Goals as goal

pub returns : goal.returns
unfolding run_texts
returns c =
    let first = adds_one _ _ _ _ (external_line c.in_ok-first.first c.delegated.result c.delegated.ensures (first_name _ c.in_ok-first.ensures)) c.in_ok-push.ensures.ok in
    on_ok_weaker c.push-2.result (λ added. adds_then _ _ _ _ _ _ first run_line added) c.push-2.ensures.ok
