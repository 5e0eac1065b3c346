-- What is so before a process and stays so, whatever its end.
use Rattle.hn_base.proofs.Names.{inl, inr, ℕ, zero, suc, List, [], ◌∷◌, Option, None, Some, sym, subst}
use Rattle.hn_spacing.proofs.Names.{Stop, Refused, WireFailed, Cut, Nothing, Unless, ThenProcess, EachProcess, Stage}
use Rattle.hn_play.specs.Process.{Process, Times, Until}

module _ (Holds : Stage → Type 0) where
  abbrev pub Keeps : Process → Type 0
  Keeps P = (c : Option Stop) (p a : Stage) → P c p a → Holds p → Holds a

  -- by the stage before it
  pub keeps_at : (process : Stage → Process) → ((p : Stage) → Keeps (process p)) → Keeps (λ stop p a. process p stop p a)
  keeps_at process keeps c p a = keeps p c p a

  pub keeps_nothing : Keeps Nothing
  keeps_nothing None p a h = subst Holds (sym h)
  keeps_nothing (Some (Refused code)) p a h = absurd h
  keeps_nothing (Some WireFailed) p a h = absurd h
  keeps_nothing (Some (Cut fault)) p a h = subst Holds (sym h)

  pub keeps_unless : (unless : Option ℕ) → Keeps (Unless unless)
  keeps_unless unless None p a h = subst Holds (sym h.1)
  keeps_unless unless (Some (Refused code)) p a h = subst Holds (sym h.1)
  keeps_unless unless (Some WireFailed) p a h = absurd h
  keeps_unless unless (Some (Cut fault)) p a h = subst Holds (sym h)

  pub keeps_then : (P R : Process) → Keeps P → Keeps R → Keeps (ThenProcess P R)
  keeps_then P R first second None p a h holds = second None h.0 a h.2 (first None p h.0 h.1 holds)
  keeps_then P R first second (Some stop) p a (inl h) holds = first (Some stop) p a h holds
  keeps_then P R first second (Some stop) p a (inr h) holds = second (Some stop) h.0 a h.2 (first None p h.0 h.1 holds)

  pub keeps_each : {A : Type 0} (each : A → Process) → ((x : A) → Keeps (each x)) → (xs : List A) → Keeps (EachProcess each xs)
  keeps_each each keeps [] = keeps_nothing
  keeps_each each keeps (x ∷ xs) = keeps_then (each x) (EachProcess each xs) (keeps x) (keeps_each each keeps xs)

  keeps_times : (HasMore : Stage → Type 0) (round : Process) → Keeps round → (n : ℕ) (p a : Stage) → Times HasMore round n p a → Holds p → Holds a
  keeps_times HasMore round keeps zero p a h holds = subst Holds (sym h) holds
  keeps_times HasMore round keeps (suc n) p a h holds = keeps None h.0 a h.3 (keeps_times HasMore round keeps n p h.0 h.1 holds)

  pub keeps_until : (HasMore : Stage → Type 0) (round : Process) → Keeps round → Keeps (Until HasMore round)
  keeps_until HasMore round keeps None p a h holds = keeps_times HasMore round keeps h.0 p a h.1 holds
  keeps_until HasMore round keeps (Some stop) p a h holds = keeps (Some stop) h.1 a h.4 (keeps_times HasMore round keeps h.0 p h.1 h.2 holds)
