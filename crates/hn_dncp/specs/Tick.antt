-- What a tick does at one endpoint, with the random words that it takes (RFC 6206, section 4.2; RFC 7787, section 6.1).
use Rattle.std.specs.Prelude.{ℕ, ◌+◌, Bool, ◌||◌, if◌then◌else◌, List, slice_index, take}
use Rattle.hn_timers.specs.Interval.{interval_from, has_to_send, fired, is_interval_over}
use Rattle.hn_timers.specs.Length.{next_length}
use Rattle.hn_timers.specs.KeepAlive.{is_keep_alive_due}
use Rattle.hn_dncp.specs.declared.port.Port.{Port}
use Rattle.hn_dncp.specs.declared.tick.Renewed.{Renewed}

-- Trickle fires, where its time has come. A Network State counts as sent only where it is sent, and not where it is
-- suppressed.
abbrev pub after_firing : ℕ → Port → Port
after_firing now port = record port {
  trickle = fired now port.trickle;
  sent = if has_to_send now port.trickle then now else port.sent;
}

-- the next interval begins with this word, where the old one has ended
abbrev pub after_interval : ℕ → ℕ → Port → Port
after_interval now word port = record port {
  trickle = if is_interval_over now port.trickle then interval_from now (next_length port.trickle.len) word else port.trickle;
}

-- a keep-alive is sent where one is due, and an interval of the same length begins with this word
abbrev pub after_keep_alive : ℕ → ℕ → Port → Port
after_keep_alive now word port = record port {
  trickle = if is_keep_alive_due port.sent now then interval_from now port.trickle.len word else port.trickle;
  sent = if is_keep_alive_due port.sent now then now else port.sent;
}

-- whether a keep-alive is due in this tick: it is not where Trickle sends
abbrev pub has_keep_alive : ℕ → Port → Bool
has_keep_alive now port = is_keep_alive_due (after_firing now port).sent now

-- how many words the next interval takes
abbrev pub interval_words : ℕ → Port → ℕ
interval_words now port = if is_interval_over now port.trickle then 1 else 0

-- how many words the tick takes
abbrev pub tick_words : ℕ → Port → ℕ
tick_words now port = interval_words now port + (if has_keep_alive now port then 1 else 0)

-- The endpoint after a tick: Trickle fires, then the next interval, then the keep-alive. Each interval that begins
-- takes the next of the words.
abbrev pub ticked : ℕ → List ℕ → Port → Port
ticked now words port =
    after_keep_alive now (slice_index words (interval_words now port)) (after_interval now (slice_index words 0) (after_firing now port))

-- whether a Network State is sent, by Trickle or as a keep-alive
abbrev pub tick_sends : ℕ → Port → Bool
tick_sends now port = has_to_send now port.trickle || has_keep_alive now port

-- the words that a tick says it took
abbrev pub words_of_tick : Renewed → List ℕ
words_of_tick renewed = take renewed.words renewed.drawn
