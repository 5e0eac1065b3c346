use Rattle.hn_own.proofs.AddressLists.{AreAddresses-none}
use Rattle.hn_own.proofs.addresses.Addresses.new.Goals as goal

pub invariant_of-result : goal.invariant_of-result
invariant_of-result c = rw c.new.ensures.items AreAddresses-none
