use Rattle.hn_lab.proofs.SomeLines.{script_has_a_play}
use Rattle.hn_lab.proofs.existing.script_has_a_play.Goals as goal

pub returns : goal.returns
returns c = script_has_a_play c.play_exists.ensures c.script_is_limited.ensures c.values_fit.ensures
