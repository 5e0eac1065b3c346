use Rattle.hn_addr.proofs.SomeChoices.{some_choice}
use Rattle.hn_addr.proofs.laws.choice_exists.Goals as goal

pub returns : goal.returns
returns c = some_choice
