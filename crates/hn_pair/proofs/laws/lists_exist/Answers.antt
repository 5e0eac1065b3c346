use Rattle.hn_pair.proofs.Names.{assigned_pair, backoff_pair}
use Rattle.hn_pair.proofs.SomeLists.{some_kept, some_updated}
use Rattle.hn_pair.proofs.laws.lists_exist.Goals as goal

pub returns-clause-kept : goal.returns-clause-kept
returns-clause-kept c = (some_kept assigned_pair, some_kept backoff_pair)

pub returns-clause-updated : goal.returns-clause-updated
returns-clause-updated c = (some_updated assigned_pair, some_updated backoff_pair)
