-- A watch, by what it remembers and counts. Its places that are empty are as if they were not there.
use Rattle.std.specs.Prelude.{◌≡◌, ℕ, ◌+◌, ◌^◌, ◌<◌, List, All}
use Rattle.hn_watch.specs.declared.shown.Shown.{Shown}
use Rattle.hn_watch.specs.declared.watch.Watch.{Watch}
use Rattle.hn_watch.specs.Remembered.{Remembers, RemembersSame}

-- how many datagrams were fed, and how many of them are no list of TLVs
abbrev pub fed_of : Watch → ℕ
fed_of watch = watch.fed

abbrev pub malformed_of : Watch → ℕ
malformed_of watch = watch.malformed

-- a watch holds what was shown, with sequence numbers of 32 bits
pub record Holds (shown : List Shown) (watch : Watch) : Type 0 where
  pub numbers : All (λ s. s.number < 2 ^ 32) shown
  pub remembered : Remembers shown watch.remembered

-- it is as before
pub record IsUnchanged (old new : Watch) : Type 0 where
  pub fed : fed_of new ≡ fed_of old
  pub malformed : malformed_of new ≡ malformed_of old
  pub remembered : RemembersSame old.remembered new.remembered

-- a malformed datagram was counted, and shows nothing
pub record IsCounted (old new : Watch) : Type 0 where
  pub fed : fed_of new ≡ fed_of old + 1
  pub malformed : malformed_of new ≡ malformed_of old + 1
  pub remembered : RemembersSame old.remembered new.remembered
