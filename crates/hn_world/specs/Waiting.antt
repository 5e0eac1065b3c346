-- What is kept of the copies of datagrams.
use Rattle.std.specs.Prelude.{◌≡◌, ℕ, ◌^◌, min, List, map, length, sum, position, count_by, unwrap_or, Option}
use Rattle.hn_world.specs.declared.copies.MailCopy.{MailCopy}

-- the first copy that waits, by its place
abbrev pub first_waiting : List MailCopy → Option ℕ
first_waiting copies = position (λ c. c.waiting) copies

-- how many bytes the copies have together
abbrev pub bytes_of_copies : List MailCopy → ℕ
bytes_of_copies copies = sum (map (λ c. length c.bytes) copies)

-- What is kept of the copies: the place of the first that waits, or the end; how many wait; and how many bytes they
-- have, up to 2^28.
pub record IsMail (copies : List MailCopy) (first waiting bytes : ℕ) : Type 0 where
  pub first_is : first ≡ unwrap_or (first_waiting copies) (length copies)
  pub waiting_is : waiting ≡ count_by (λ c. c.waiting) copies
  pub bytes_are : bytes ≡ min (bytes_of_copies copies) (2 ^ 28)
