-- Laws of senders.
use Rattle.std.specs.Prelude.{◌≡◌, ℕ, ◌+◌, ◌≤◌, List, [], IsTrue, IfSome}
use Rattle.hn_radv.specs.Sender.{PlainSender, started_sender, solicited, is_due}
use Rattle.hn_radv.specs.Runs.{Call, run_of, sent_by_calls, AreSpaced}

-- Two advertisements of a sender are at least 3,000 ms apart, whatever is called (RFC 4861, section 6.2.6).
abbrev pub SendersAreSpaced : Type 0
SendersAreSpaced = (start : ℕ) (calls : List Call) → AreSpaced (sent_by_calls calls (started_sender start))

-- A solicitation is answered: where none was sent since, one is due 500 ms after it, once the last one is 3,000 ms past.
abbrev pub SolicitedIsAnswered : Type 0
SolicitedIsAnswered =
    (s : PlainSender) (t word now : ℕ) (calls : List Call)
    → sent_by_calls calls (solicited t word s) ≡ [] → t + 500 ≤ now → IfSome s.last (λ last. last + 3000 ≤ now)
    → IsTrue (is_due now (run_of calls (solicited t word s)))
