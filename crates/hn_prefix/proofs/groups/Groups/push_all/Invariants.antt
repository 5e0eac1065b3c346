use Rattle.hn_base.proofs.Names.{◌≡◌, ◌++◌, take}
use Rattle.hn_prefix.proofs.groups.Groups.push_all.Given as goal

abbrev pub invariant-loop-group : goal.invariant-loop-group
invariant-loop-group l = l.self ≡ l.initial.self ++ take l.group-index l.groups
