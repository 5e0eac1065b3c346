use Rattle.hn_base.proofs.Names.{◌≡◌, ◌++◌, replicate}
use Rattle.hn_prefix.proofs.groups.Groups.push_zeros.Given as goal

abbrev pub invariant-loop : goal.invariant-loop
invariant-loop l = l.self ≡ l.initial.self ++ replicate l.counter 0
