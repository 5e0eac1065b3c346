use Rattle.hn_script.proofs.FittingValues.{fitting_values}
use Rattle.hn_script.proofs.laws.values_fit.Goals as goal

pub returns : goal.returns
returns c = fitting_values
