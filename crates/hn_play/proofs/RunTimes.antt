-- Rounds, again and again.
use Rattle.hn_base.proofs.Names.{ℕ, List, suc, Option, None, Some, inl, inr}
use Rattle.hn_play.proofs.Names.{Stop, Process, ThenProcess, Times, Stage, EndsAt}
use Rattle.hn_play.proofs.RunWrites.{goes_on}

-- some number of rounds
abbrev pub SomeTimes : (Stage → Type 0) → Process → Process
SomeTimes HasMore round stop before after = (n : ℕ) × Times HasMore round n before after

module _ (HasMore : Stage → Type 0) (round : Process) (before between : Stage) where
  pub once_more : (after : Stage) → ((n : ℕ) × Times HasMore round n before between) → HasMore between → round None between after → (n : ℕ) × Times HasMore round n before after
  once_more after so_far more done = (suc so_far.0, (between, so_far.1, more, done))

-- and where lines come up in them
module _ (HasMore : Stage → Type 0) (round : Process) (p b a : Stage) (h j k : Option (List ℕ)) (done : EndsAt (SomeTimes HasMore round) None p b h j) (more : HasMore done.at) where
  pub round_more : EndsAt round None (record b { text = done.at.text }) (record a { text = done.at.text }) j k → EndsAt (SomeTimes HasMore round) None p a h k
  round_more next = goes_on (SomeTimes HasMore round) round (SomeTimes HasMore round) None p b a h j k done
      (λ at ends. (suc done.ended.0, (done.at, done.ended.1, more, ends))) next

-- two in a row, and a third
pub then_assoc : (P Q R : Process) (stop : Option Stop) (p a : Stage) → ThenProcess (ThenProcess P Q) R stop p a → ThenProcess P (ThenProcess Q R) stop p a
then_assoc P Q R None p a (x, (y, first, second), third) = (y, first, (x, second, third))
then_assoc P Q R (Some stop) p a (inl (inl first)) = inl first
then_assoc P Q R (Some stop) p a (inl (inr (y, first, second))) = inr (y, first, inl second)
then_assoc P Q R (Some stop) p a (inr (x, (y, first, second), third)) = inr (y, first, inr (x, second, third))
