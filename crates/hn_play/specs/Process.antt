-- What goes on in a play, and how it ends: done, or stopped.
use Rattle.std.specs.Prelude.{◌≡◌, ◌⊎◌, ℕ, zero, suc, List, [], ◌∷◌, Option, None, Some}
use Rattle.hn_play.specs.declared.end.Stop.{Stop}
use Rattle.hn_play.specs.declared.end.Stop.TheVariants.{Refused, WireFailed, Cut}
use Rattle.hn_play.specs.Stage.{Stage}

-- a process with this end leads from one state of a play to another
abbrev pub Process : Type 1
Process = Option Stop → Stage → Stage → Type 0

-- nothing goes on; as at each place of a play, all may be cut there
abbrev pub Nothing : Process
Nothing None before after = after ≡ before
Nothing (Some (Refused code)) before after = ⊥
Nothing (Some WireFailed) before after = ⊥
Nothing (Some (Cut fault)) before after = after ≡ before

-- a code refuses what follows, if there is one
abbrev pub Unless : Option ℕ → Process
Unless unless None before after = (unless ≡ None) × (after ≡ before)
Unless unless (Some (Refused code)) before after = (unless ≡ Some code) × (after ≡ before)
Unless unless (Some WireFailed) before after = ⊥
Unless unless (Some (Cut fault)) before after = after ≡ before

-- one, and then another unless the first is stopped
abbrev pub ThenProcess : Process → Process → Process
ThenProcess first second None before after = (between : Stage) × first None before between × second None between after
ThenProcess first second (Some stop) before after =
    first (Some stop) before after ⊎ ((between : Stage) × first None before between × second (Some stop) between after)

-- one for each of these, one after another
abbrev pub EachProcess : {A : Type 0} → (A → Process) → List A → Process
EachProcess each [] stop before after = Nothing stop before after
EachProcess each (x ∷ xs) stop before after = ThenProcess (each x) (EachProcess each xs) stop before after

-- so many times, each time where there is more to do
abbrev pub Times : (Stage → Type 0) → Process → ℕ → Stage → Stage → Type 0
Times HasMore round zero before after = after ≡ before
Times HasMore round (suc n) before after =
    (between : Stage) × Times HasMore round n before between × HasMore between × round None between after

-- again and again, until there is no more to do, or a round is stopped
abbrev pub Until : (Stage → Type 0) → Process → Process
Until HasMore round None before after = (n : ℕ) × Times HasMore round n before after × ¬ HasMore after
Until HasMore round (Some stop) before after =
    (n : ℕ) × (between : Stage) × Times HasMore round n before between × HasMore between × round (Some stop) between after
