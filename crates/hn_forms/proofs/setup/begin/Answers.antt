use Rattle.hn_forms.proofs.Setups.{set_up_first}
use Rattle.hn_forms.proofs.setup.begin.Goals as goal

pub returns-in-Ok-clause-set_up : goal.returns-in-Ok-clause-set_up
returns-in-Ok-clause-set_up g c =
    let done = c.in-Ok.ensures.happened in
    (done.0.words, set_up_first c.args.id c.args.now c.in_ok-router.router c.happens.new.router done.0 c.in_ok-router.ensures done.1, done.2)
