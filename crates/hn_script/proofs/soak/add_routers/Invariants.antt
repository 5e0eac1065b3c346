use Rattle.hn_script.proofs.Names.{up_to, router_texts, AddsLines}
use Rattle.hn_script.proofs.soak.add_routers.Given as goal

-- those of the numbers up to k are added
abbrev pub invariant-loop-k : goal.invariant-loop-k
invariant-loop-k l = AddsLines (up_to l.k router_texts) l.fn.lines l.lines
