-- What a call took from a draw that nothing was taken from before, it takes after any words.
use Rattle.hn_base.proofs.Names.{◌+◌, ◌∙◌, ℕ, List, [], Option, Some, length, ap, arith, zero-add, length-append, IsAt, Drew, Took}
use Rattle.std.proofs.Common.{add_assoc}
use Rattle.hn_base.proofs.FirstWords.{begins_both}

pub took_shifted : (told told_after : Option (ℕ → ℕ)) (words : List ℕ) → Drew told [] told_after words → Took told words told_after
took_shifted told told_after words drew before stream at =
    let after : IsAt told_after (λ i. stream (length before + i)) words = drew (λ i. stream (length before + i)) (record {
      begins = λ i less. absurd (omega arith);
      rest = at.rest ∙ ap Some (simp zero-add);
    }) in
    record {
      begins = begins_both before words stream at.begins after.begins;
      rest = after.rest ∙ ap Some (simp (length-append, add_assoc));
    }
