use Rattle.hn_own.proofs.PrefixOrder.{own-filter, own-with}
use Rattle.hn_own.proofs.laws.own_prefixes_stay.Goals as goal

pub returns-clause-added : goal.returns-clause-added
returns-clause-added c = own-with

pub returns-clause-some : goal.returns-clause-some
returns-clause-some c = own-filter
