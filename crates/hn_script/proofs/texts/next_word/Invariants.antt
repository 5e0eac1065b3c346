-- The words of the rest are those of the text.
use Rattle.hn_base.proofs.Names.{◌≡◌, length}
use Rattle.hn_script.proofs.Names.{words_of}
use Rattle.hn_script.proofs.texts.next_word.Given as goal

abbrev pub invariant-loop-piece : goal.invariant-loop-piece
invariant-loop-piece l = words_of l.text ≡ words_of l.rest

abbrev pub decreases-loop-piece : goal.decreases-loop-piece
decreases-loop-piece l = length l.rest
