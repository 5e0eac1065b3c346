use Rattle.hn_radv.specs.Sender.{started_sender}
use Rattle.hn_radv.proofs.SpacedAndAnswered.{calls_apart}
use Rattle.hn_radv.proofs.laws.senders_are_spaced.Goals as goal

pub returns : goal.returns
returns c = λ start calls. (calls_apart calls (started_sender start) tt).1
