use Rattle.hn_base.proofs.Names.{map, string_bytes}
use Rattle.hn_forms.proofs.Ported.{ArePorted}
use Rattle.hn_forms.proofs.words.ports_of.Given as goal

abbrev pub invariant-loop-place : goal.invariant-loop-place
invariant-loop-place l = ArePorted (map string_bytes l.words) l.place l.ports
