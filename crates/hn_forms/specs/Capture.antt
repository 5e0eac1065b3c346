-- A capture that was read.
use Rattle.std.specs.Prelude.{◌≡◌, ℕ, ◌+◌, ◌⊎◌, List, ◌++◌, length}
use Rattle.std.specs.List.{AllZip}
use Rattle.hn_script.specs.Texts.{lines_of}
use Rattle.hn_tlv.specs.Grammar.{HasTlvs}
use Rattle.hn_watch.specs.declared.shown.Shown.{Shown}
use Rattle.hn_watch.specs.declared.seen.Seen.{Seen}
use Rattle.hn_watch.specs.declared.watch.Watch.{Watch}
use Rattle.hn_watch.specs.Shown.{AreShownIn}
use Rattle.hn_watch.specs.Seen.{AreSeen}
use Rattle.hn_watch.specs.Watch.{fed_of, malformed_of, Holds, IsCounted}
use Rattle.hn_forms.specs.Watch.{IsCaptureLine, AreFed, watch_text}

-- a list of TLVs was fed, and what it shows is held
pub record IsShown (datagram : List ℕ) (old new : Watch) : Type 0 where
  pub list : HasTlvs datagram
  pub holds : (shown before : List Shown) → AreShownIn datagram shown → Holds before old → Holds (before ++ shown) new
  pub fed : fed_of new ≡ fed_of old + 1
  pub malformed : malformed_of new ≡ malformed_of old

-- a datagram was fed
abbrev pub IsLineFed : List ℕ → Watch → Watch → Type 0
IsLineFed datagram old new = IsShown datagram old new ⊎ (¬ HasTlvs datagram × IsCounted old new)

-- what a watch is that was fed with these datagrams
pub record HasFed (datagrams : List (List ℕ)) (watch : Watch) : Type 0 where
  pub shown : List Shown
  pub fed : AreFed datagrams (malformed_of watch) shown
  pub holds : Holds shown watch
  pub count : fed_of watch ≡ length datagrams

-- a watch was fed with the lines of a capture
pub record IsFedBy (bytes : List ℕ) (watch : Watch) : Type 0 where
  pub datagrams : List (List ℕ)
  pub lines : AllZip IsCaptureLine datagrams (lines_of bytes)
  pub has : HasFed datagrams watch

-- the text of what a watch has seen
pub record IsTextOf (watch : Watch) (text : List ℕ) : Type 0 where
  pub seen : List Seen
  pub are_seen : (shown : List Shown) → Holds shown watch → AreSeen shown seen
  pub text_is : text ≡ watch_text (fed_of watch) (malformed_of watch) seen
