use Rattle.hn_addr.proofs.AddressesFit.{addresses_fit}
use Rattle.hn_addr.proofs.laws.chosen_addresses_fit.Goals as goal

pub returns : goal.returns
returns c = addresses_fit
