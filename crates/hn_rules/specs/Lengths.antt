-- How long datagrams are. The most is what UDP carries over IPv6.
use Rattle.std.specs.Prelude.{ℕ, ◌≤◌, length, All}
use Rattle.hn_rules.specs.declared.running.Running.{Running}

-- the longest TLV of an answer is a Node State with its data: 4 and 20 bytes, 60,000 of data, and at most 3 of padding
abbrev pub most_answer : ℕ
most_answer = 60030

-- how long a datagram may be (RFC 768: 65,535 bytes with its header and that of IPv4)
abbrev pub most_datagram : ℕ
most_datagram = 65507

-- the answers so far, and what was sent so far, are short
pub record AreShort (r : Running) : Type 0 where
  pub answers : All (λ a. length a.tlv ≤ most_answer) r.answers
  pub sends : All (λ o. length o.bytes ≤ most_datagram) r.done.sends
