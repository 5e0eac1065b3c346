use Rattle.std.specs.Prelude.{ℕ, ◌+◌, ◌*◌, ◌/◌, ◌-◌, Bool, ◌&&◌, nat_lt, nat_le}

-- A peer's keep-alives have stopped: it promised some, and for 2.1 times the interval or longer nothing was heard
-- (RFC 7787, section 6.1.5; the multiplier is that of RFC 7788, section 3). Times are in milliseconds.
abbrev pub is_expired : ℕ → ℕ → ℕ → Bool
is_expired contact interval now = nat_lt 0 interval && nat_le (21 * interval) (10 * (now - contact))

-- the moment from which they have: 2.1 times the interval after the contact, rounded up to a millisecond
abbrev pub expires_at : ℕ → ℕ → ℕ
expires_at contact interval = contact + (21 * interval + 9) / 10

-- No network state was sent for 20 seconds or longer (RFC 7787, section 6.1.2; the interval is that of RFC 7788,
-- section 3).
abbrev pub is_keep_alive_due : ℕ → ℕ → Bool
is_keep_alive_due sent now = nat_le 20000 (now - sent)

-- the moment from which none was
abbrev pub silence_end : ℕ → ℕ
silence_end sent = sent + 20000
