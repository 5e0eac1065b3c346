use Rattle.hn_script.proofs.Names.{up_to, link_texts, AddsLines}
use Rattle.hn_script.proofs.soak.add_links.Given as goal

-- those of the numbers up to k are added
abbrev pub invariant-loop-k : goal.invariant-loop-k
invariant-loop-k l = AddsLines (up_to l.k link_texts) l.fn.lines l.lines
