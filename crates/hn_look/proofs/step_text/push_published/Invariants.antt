use Rattle.hn_base.proofs.Names.{◌≡◌, ◌++◌, take, string_bytes, flat_map}
use Rattle.hn_look.specs.Steps.{published_line}
use Rattle.hn_look.proofs.step_text.push_published.Given as goal

-- the publications so far have a line each
abbrev pub invariant-loop-one : goal.invariant-loop-one
invariant-loop-one l = string_bytes l.text ≡ string_bytes l.fn.text ++ flat_map (published_line l.name) (take l.one-index l.published)
