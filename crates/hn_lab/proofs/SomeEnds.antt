-- Processes end, and so do those that are made of them: it cannot be that they do not.
use Rattle.hn_base.proofs.Names.{◌≡◌, ◌≤◌, ◌+◌, ◌-◌, ℕ, zero, suc, List, [], ◌∷◌, Contains, length, Option, None, Some, refl, sym, subst, inl, inr, arith, Some! }
use Rattle.hn_lab.proofs.Names.{Contains-head, Contains-tail, some_by, some_then, IsFit, IsOn, GoesOn, ComesToAnEnd, stop_by, Process, Nothing, Unless, ThenProcess, EachProcess, Times}
use Rattle.hn_lab.proofs.Names.{Until, Stage, TellsLines, TellsSome, Reports}

-- the same stage, or one with this world, is no further
pub on_same : (p q : Stage) → IsFit q → q.world ≡ p.world → IsOn 0 p q
on_same p q fit same = record { fit = fit; grows = subst (λ w. length p.world.trace + 0 ≤ length w.trace) (sym same) (omega arith) }

-- ---- one after another

module _ (more : ℕ) (first second : Process) (p : Stage) where
  after_first : (m : Stage) → first None p m → IsOn more p m → ComesToAnEnd 0 second m → ComesToAnEnd more (ThenProcess first second) p
  after_first m done on ends = some_then ends (λ e h. by_code e.code e.stage h.0 h.1)
    where
      by_code : (code : Option ℕ) (a : Stage) → second (stop_by code) m a → GoesOn 0 code m a → ComesToAnEnd more (ThenProcess first second) p
      by_code None a ended goes = λ none.
          let grew = on.grows in
          let grows = goes.grows in
          none (record { code = None; stage = a }) ((m, done, ended), record { fit = goes.fit; grows = omega (arith, grew, grows) })
      by_code (Some code) a ended goes = λ none. none (record { code = Some code; stage = a }) (inr (m, done, ended), tt)

  pub ends_then : ComesToAnEnd more first p → ((m : Stage) → first None p m → IsOn more p m → ComesToAnEnd 0 second m) → ComesToAnEnd more (ThenProcess first second) p
  ends_then ends next = some_then ends (λ e h. by_code e.code e.stage h.0 h.1)
    where
      by_code : (code : Option ℕ) (m : Stage) → first (stop_by code) p m → GoesOn more code p m → ComesToAnEnd more (ThenProcess first second) p
      by_code None m done on = after_first m done on (next m done on)
      by_code (Some code) m ended goes = λ none. none (record { code = Some code; stage = m }) (inl ended, tt)

-- ---- nothing, a code that refuses, and lines

pub ends_nothing : (p : Stage) → IsFit p → ComesToAnEnd 0 Nothing p
ends_nothing p fit = λ none. none (record { code = None; stage = p }) (refl, on_same p p fit refl)

pub ends_unless : (unless : Option ℕ) (p : Stage) → IsFit p → ComesToAnEnd 0 (Unless unless) p
ends_unless None p fit = λ none. none (record { code = None; stage = p }) ((refl, refl), on_same p p fit refl)
ends_unless (Some code) p fit = λ none. none (record { code = Some code; stage = p }) ((refl, refl), tt)

-- what follows, unless a code refuses it
pub ends_after : (unless : Option ℕ) (process : Process) (p : Stage) → IsFit p → (unless ≡ None → ComesToAnEnd 0 process p) → ComesToAnEnd 0 (ThenProcess (Unless unless) process) p
ends_after unless process p fit next = ends_then 0 (Unless unless) process p (ends_unless unless p fit)
    (λ m done on. subst (ComesToAnEnd 0 process) (sym done.1) (next done.0))

-- where it is known what follows, if anything does
pub ends_after_more : (more : ℕ) (unless : Option ℕ) (process : Process) (p : Stage) → (unless ≡ None → ComesToAnEnd more process p) → ComesToAnEnd more (ThenProcess (Unless unless) process) p
ends_after_more more None process p next = some_then (next refl) (λ e h. by_code e.code e.stage h.0 h.1)
  where
    by_code : (code : Option ℕ) (a : Stage) → process (stop_by code) p a → GoesOn more code p a → ComesToAnEnd more (ThenProcess (Unless None) process) p
    by_code None a ended goes = λ none. none (record { code = None; stage = a }) ((p, (refl, refl), ended), goes)
    by_code (Some code) a ended goes = λ none. none (record { code = Some code; stage = a }) (inr (p, (refl, refl), ended), tt)
ends_after_more more (Some code) process p next = λ none. none (record { code = Some code; stage = p }) (inl (refl, refl), tt)

pub fit_told : (lines : List (List ℕ)) (p : Stage) → IsFit p → (a : Stage) → TellsLines lines None p a → IsOn 0 p a
fit_told lines p fit a told =
    subst (IsOn 0 p) (sym told) (record { fit = record { mail = fit.mail; replayed = fit.replayed; room = fit.room; words = fit.words }; grows = omega arith })

pub ends_tells : (lines : List (List ℕ)) (p : Stage) → IsFit p → ComesToAnEnd 0 (TellsLines lines) p
ends_tells lines p fit = λ none. none (record { code = None; stage = _ }) (refl, fit_told lines p fit _ refl)

-- a report, where there is one
pub ends_report : (unless : Option ℕ) (AreReport : List (List ℕ) → Type 0) (p : Stage) → IsFit p → (unless ≡ None → Some! AreReport) → ComesToAnEnd 0 (Reports unless AreReport) p
ends_report unless AreReport p fit some = ends_after unless (TellsSome AreReport) p fit (λ accepted.
    some_then (some accepted) (λ lines are none. none (record { code = None; stage = _ }) ((lines, are, refl), fit_told lines p fit _ refl)))

-- ---- one for each

pub ends_each : {A : Type 0} (each : A → Process) (xs : List A) (p : Stage) → IsFit p → ((x : A) → Contains xs x → (m : Stage) → IsFit m → ComesToAnEnd 0 (each x) m)
    → ComesToAnEnd 0 (EachProcess each xs) p
ends_each each [] p fit all = ends_nothing p fit
ends_each each (x ∷ xs) p fit all =
    ends_then 0 (each x) (EachProcess each xs) p (all x (Contains-head x xs) p fit) (λ m done on. ends_each each xs m on.fit (λ y there. all y (Contains-tail x xs y there)))

-- ---- again and again: each round enters an event, and there is room for 1,000,000

module _ (HasMore : Stage → Type 0) (round : Process) (p : Stage) (rounds : (m : Stage) → IsFit m → HasMore m → ComesToAnEnd 1 round m) where
  if_more : (m : Stage) → IsFit m → (n : ℕ) → Times HasMore round n p m → length p.world.trace ≤ length m.world.trace
      → ((a : Stage) → Times HasMore round (suc n) p a → IsOn 1 m a → ComesToAnEnd 0 (Until HasMore round) p) → ComesToAnEnd 0 (Until HasMore round) p
  if_more m fit n came grew next = some_by (HasMore m) (λ has. some_then (rounds m fit has) (λ e h. by_code has e.code e.stage h.0 h.1)) (λ done none.
      none (record { code = None; stage = m }) ((n, came, done), record { fit = fit; grows = omega (arith, grew) }))
    where
      by_code : HasMore m → (code : Option ℕ) (a : Stage) → round (stop_by code) m a → GoesOn 1 code m a → ComesToAnEnd 0 (Until HasMore round) p
      by_code has None a ended goes = next a (m, came, has, ended) goes
      by_code has (Some code) a ended goes = λ none. none (record { code = Some code; stage = a }) ((n, m, came, has, ended), tt)

  they_end : (room : ℕ) (m : Stage) → IsFit m → (n : ℕ) → Times HasMore round n p m → length p.world.trace ≤ length m.world.trace
      → 1000000 ≤ length m.world.trace + room → ComesToAnEnd 0 (Until HasMore round) p
  they_end zero m fit n came grew full = if_more m fit n came grew (λ a more on.
      let grows = on.grows in
      let room = on.fit.room in
      absurd (omega (arith, full, grows, room)))
  they_end (suc room) m fit n came grew full = if_more m fit n came grew (λ a more on.
      let grows = on.grows in
      they_end room a on.fit (suc n) more (omega (arith, grew, grows)) (omega (arith, full, grows)))

  pub ends_until : IsFit p → ComesToAnEnd 0 (Until HasMore round) p
  ends_until fit = they_end (1000000 - length p.world.trace) p fit 0 refl (omega arith) (omega arith)
