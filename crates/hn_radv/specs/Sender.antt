-- When an endpoint sends its Router Advertisements (RFC 4861, sections 6.2.4 and 6.2.6). Moments and spans are in
-- milliseconds.
use Rattle.std.specs.Prelude.{ℕ, ◌+◌, ◌^◌, ◌%◌, ◌<◌, ◌≤◌, ◌==◌, Bool, if◌then◌else◌, max, min, nat_le, Option, None, Some, IfSome}
use Rattle.std.specs.Option.{option_map_or}

-- how many were sent, up to four; when the last one was sent; and when the next one is due
pub record PlainSender : Type 0 where
  pub count : ℕ
  pub last : Option ℕ
  pub next : ℕ

-- what holds of each: the next one is due 3,000 ms after the last one or later, and moments are in range
pub record IsSpacedSender (s : PlainSender) : Type 0 where
  pub few : s.count ≤ 4
  pub past : IfSome s.last (λ last. last ≤ 2 ^ 48)
  pub spaced : IfSome s.last (λ last. last + 3000 ≤ s.next)
  pub soon : s.next < 2 ^ 49

-- one that begins: it sends at once
abbrev pub started_sender : ℕ → PlainSender
started_sender now = record { count = 0; last = None; next = now }

-- when a solicitation is answered: 0 to 500 ms after it, as a word says, and 3,000 ms after the last one at the earliest
abbrev pub answer_of : ℕ → ℕ → PlainSender → ℕ
answer_of now word s = option_map_or (λ last. max (now + word % 501) (last + 3000)) s.last (now + word % 501)

-- after a solicitation the next one is due no later than its answer
abbrev pub solicited : ℕ → ℕ → PlainSender → PlainSender
solicited now word s = record s { next = min s.next (answer_of now word s) }

-- whether one is due
abbrev pub is_due : ℕ → PlainSender → Bool
is_due now s = nat_le s.next now

-- how many were sent, up to four, with one more
abbrev pub count_after : PlainSender → ℕ
count_after s = min (s.count + 1) 4

-- whether the one that is sent now takes a word for the next: the fourth and each later one
abbrev pub draws : PlainSender → Bool
draws s = count_after s == 4

-- one is sent: after each of the first three the next is due in 16,000 ms, after that in 198,000 to 600,000 ms
abbrev pub sent : ℕ → ℕ → PlainSender → PlainSender
sent now word s = record {
  count = count_after s;
  last = Some now;
  next = if draws s then now + 198000 + word % 402001 else now + 16000;
}
