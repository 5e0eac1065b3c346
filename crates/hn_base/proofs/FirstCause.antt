-- Two readings of a table of which the first line decides whose condition holds.
use Rattle.hn_base.proofs.Names.{◌≡◌, ◌∙◌, ℕ, inl, inr, sym, LineElse, OnCause}

-- both end at this line, or both go on
pub both_lines : {C A B L M R : Type 0} → LineElse C A L → LineElse C B M → (A → B → R) → (L → M → R) → R
both_lines (inl (holds, a)) (inl (also, b)) here later = here a b
both_lines (inl (holds, a)) (inr (no', m)) here later = absurd (no' holds)
both_lines (inr (no', l)) (inl (holds, b)) here later = absurd (no' holds)
both_lines (inr (no', l)) (inr (nor', m)) here later = later l m

-- the first cause that holds is one, where it is one of the others
pub one_cause : (cause : Type 0) (number : ℕ) (others : ℕ → Type 0) (v w : ℕ) → (others v → others w → v ≡ w) → OnCause cause number others v → OnCause cause number others w → v ≡ w
one_cause cause number others v w same (inl a) (inl b) = a.1 ∙ sym b.1
one_cause cause number others v w same (inl a) (inr b) = absurd (b.0 a.0)
one_cause cause number others v w same (inr a) (inl b) = absurd (a.0 b.0)
one_cause cause number others v w same (inr a) (inr b) = same a.1 b.1
