use Rattle.hn_own.proofs.AddressLists.{AreAddresses-without, may_be}
use Rattle.hn_own.proofs.laws.addresses_stay.Goals as goal

pub returns-clause-some : goal.returns-clause-some
returns-clause-some c = AreAddresses-without

pub returns-clause-may_be : goal.returns-clause-may_be
returns-clause-may_be c = may_be
