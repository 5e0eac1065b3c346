use Rattle.hn_base.proofs.Names.{◌≡◌, ◌++◌, replicate, string_bytes}
use Rattle.hn_decode.proofs.line.push_indent.Given as goal

abbrev pub invariant-loop : goal.invariant-loop
invariant-loop l = string_bytes l.out ≡ string_bytes l.initial.out ++ replicate l.counter 32
