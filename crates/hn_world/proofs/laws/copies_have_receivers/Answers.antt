use Rattle.hn_world.proofs.ReceiversOfCopies.{received}
use Rattle.hn_world.proofs.laws.copies_have_receivers.Goals as goal

pub returns : goal.returns
returns c = received
