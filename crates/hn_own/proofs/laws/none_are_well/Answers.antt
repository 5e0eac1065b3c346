use Rattle.hn_own.proofs.AddressLists.{AreAddresses-none}
use Rattle.hn_own.proofs.PortLists.{ArePorts-none}
use Rattle.hn_own.proofs.PrefixLists.{AreOwnPrefixes-none}
use Rattle.hn_own.proofs.laws.none_are_well.Goals as goal

pub returns-clause-endpoints : goal.returns-clause-endpoints
returns-clause-endpoints c = ArePorts-none

pub returns-clause-prefixes : goal.returns-clause-prefixes
returns-clause-prefixes c = AreOwnPrefixes-none

pub returns-clause-addresses : goal.returns-clause-addresses
returns-clause-addresses c = AreAddresses-none
