-- Laws of what is shown and seen.
use Rattle.std.specs.Prelude.{◌≡◌, ℕ, List}
use Rattle.hn_tlv.specs.Grammar.{HasTlvs}
use Rattle.hn_watch.specs.declared.shown.Shown.{Shown}
use Rattle.hn_watch.specs.declared.seen.Seen.{Seen}
use Rattle.hn_watch.specs.declared.watch.Watch.{Watch}
use Rattle.hn_watch.specs.Shown.{AreShownIn}
use Rattle.hn_watch.specs.Seen.{AreSeen}
use Rattle.hn_watch.specs.Watch.{Holds, IsCounted}

-- A datagram shows at most one list.
abbrev pub ShownIsUnique : Type 0
ShownIsUnique = (datagram : List ℕ) (a b : List Shown) → AreShownIn datagram a → AreShownIn datagram b → a ≡ b

-- Each list of TLVs shows something, or nothing.
abbrev pub ListsShow : Type 0
ListsShow = (datagram : List ℕ) → HasTlvs datagram → (shown : List Shown) × AreShownIn datagram shown

-- Of what was shown there is one list of what is seen.
abbrev pub SeenIsUnique : Type 0
SeenIsUnique = (shown : List Shown) (a b : List Seen) → AreSeen shown a → AreSeen shown b → a ≡ b

-- What a watch holds it holds after a malformed datagram.
abbrev pub HeldAfterMalformed : Type 0
HeldAfterMalformed = (shown : List Shown) (old new : Watch) → IsCounted old new → Holds shown old → Holds shown new
