-- Runs of a sender: lists of calls.
use Rattle.std.specs.Prelude.{ℕ, ◌+◌, ◌≤◌, if◌then◌else◌, List, [], ◌∷◌, ◌++◌, All, Option, None, Some}
use Rattle.std.specs.Option.{option_to_list}
use Rattle.hn_radv.specs.Sender.{PlainSender, solicited, is_due, sent}

-- a solicitation comes, the advertisement has changed, or it is asked whether one is due; with the random word that the call
-- takes, if it takes one
pub data Call : Type 0 where
  Solicit : (now word : ℕ) → Call
  Changed : (now : ℕ) → Call
  Due : (now word : ℕ) → Call

-- the sender after a call
abbrev pub after : Call → PlainSender → PlainSender
after (Solicit now word) s = solicited now word s
after (Changed now) s = solicited now 0 s
after (Due now word) s = if is_due now s then sent now word s else s

-- the moment at which a call sends, if it does
abbrev pub sends : Call → PlainSender → Option ℕ
sends (Solicit now word) s = None
sends (Changed now) s = None
sends (Due now word) s = if is_due now s then Some now else None

-- the sender after a list of calls
abbrev pub run_of : List Call → PlainSender → PlainSender
run_of [] s = s
run_of (c ∷ cs) s = run_of cs (after c s)

-- the moments at which these calls send
abbrev pub sent_by_calls : List Call → PlainSender → List ℕ
sent_by_calls [] s = []
sent_by_calls (c ∷ cs) s = option_to_list (sends c s) ++ sent_by_calls cs (after c s)

-- each moment is 3,000 ms after each earlier one, or later
abbrev pub AreSpaced : List ℕ → Type 0
AreSpaced [] = Unit {0}
AreSpaced (x ∷ xs) = All (λ y. x + 3000 ≤ y) xs × AreSpaced xs
