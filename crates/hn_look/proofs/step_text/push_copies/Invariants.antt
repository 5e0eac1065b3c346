use Rattle.hn_base.proofs.Names.{◌≡◌, ◌-◌, ◌++◌, drop, string_bytes}
use Rattle.hn_look.proofs.Names.{copy_lines}
use Rattle.hn_look.proofs.step_text.push_copies.Given as goal

-- the copies so far have a line each
abbrev pub invariant-loop-made : goal.invariant-loop-made
invariant-loop-made l = string_bytes l.text ++ copy_lines l.world.parts l.made (drop l.made l.world.parts.copies) ≡ string_bytes l.fn.text ++ copy_lines l.world.parts l.first
    (drop l.first l.world.parts.copies)

abbrev pub decreases-loop-made : goal.decreases-loop-made
decreases-loop-made l = l.count - l.made
