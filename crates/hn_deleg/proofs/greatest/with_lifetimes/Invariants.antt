use Rattle.hn_base.proofs.Names.{◌≡◌, take, All}
use Rattle.hn_deleg.proofs.Names.{HasLifetimesIn, prefixes_of}
use Rattle.hn_deleg.proofs.greatest.with_lifetimes.Given as goal

abbrev pub invariant-loop-prefix : goal.invariant-loop-prefix
invariant-loop-prefix l = (prefixes_of l.found.items ≡ take l.prefix-index l.prefixes) × All (HasLifetimesIn l.list) l.found.items
