use Rattle.hn_addr.proofs.OwnAddressesStay.{still_stay}
use Rattle.hn_addr.proofs.laws.still_addresses_stay.Goals as goal

pub returns : goal.returns
returns c = still_stay
