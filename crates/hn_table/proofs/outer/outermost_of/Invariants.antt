use Rattle.hn_base.proofs.Names.{ℕ, PlainPrefix, IsPrefix, IsWithin}
use Rattle.hn_table.proofs.Names.{plain_view, IsAnnouncedPrefix}
use Rattle.hn_table.proofs.outer.outermost_of.Given as goal

-- it is a candidate that has the prefix inside
abbrev pub invariant-loop-outer : goal.invariant-loop-outer
invariant-loop-outer l = IsPrefix l.outermost × IsAnnouncedPrefix (plain_view l.view) l.outermost × IsWithin l.prefix l.outermost

-- and gets shorter
abbrev pub decreases-loop-outer : goal.decreases-loop-outer
decreases-loop-outer l = l.outermost.len
