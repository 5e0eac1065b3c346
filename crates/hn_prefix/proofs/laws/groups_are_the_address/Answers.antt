use Rattle.hn_prefix.proofs.WriteLemmas.{address_of-groups, groups-address_of}
use Rattle.hn_prefix.proofs.laws.groups_are_the_address.Goals as goal

pub returns-clause-address : goal.returns-clause-address
returns-clause-address c = address_of-groups

pub returns-clause-groups : goal.returns-clause-groups
returns-clause-groups c = groups-address_of
