-- What `watch` writes of a capture: lines in hexadecimal, each a datagram.
use Rattle.std.specs.Prelude.{◌≡◌, ℕ, ◌+◌, ◌^◌, ◌<◌, ◌≤◌, ◌⊎◌, List, [], ◌∷◌, ◌++◌, Option, length, codes}
use Rattle.std.specs.List.{AllZip, flat_map}
use Rattle.std.specs.Fmt.{decimal}
use Rattle.std.specs.Io.KnownBytes.{Appends}
use Rattle.hn_base.specs.Causes.{OnCause, NoCause}
use Rattle.hn_base.specs.HexText.{hex_text, id_text}
use Rattle.hn_io.specs.declared.fault.IoFault.{IoFault}
use Rattle.hn_io.specs.declared.fault.IoFault.TheVariants.{NoMemory}
use Rattle.hn_script.specs.Field.{IsHexWord}
use Rattle.hn_script.specs.Texts.{lines_of}
use Rattle.hn_script.specs.declared.fault.ScriptFault.{ScriptFault}
use Rattle.hn_tlv.specs.Grammar.{HasTlvs}
use Rattle.hn_watch.specs.declared.seen.Seen.{Seen}
use Rattle.hn_watch.specs.declared.shown.Shown.{Shown}
use Rattle.hn_watch.specs.Shown.{AreShownIn}
use Rattle.hn_watch.specs.Seen.{AreSeen}
use Rattle.hn_streams.specs.Refusal.{refused_line}
use Rattle.hn_streams.specs.Output.{AppendsCut}

-- a line of a capture: hexadecimal digits of at most 131,014 bytes, which write a datagram; `-` is one without bytes
pub record IsCaptureLine (datagram text : List ℕ) : Type 0 where
  pub short : length text ≤ 131014
  pub hex : IsHexWord datagram text

-- why a line is none: 5, it is too long; 4, it is no hexadecimal. An empty line is none.
abbrev pub CaptureFault : List ℕ → ℕ → Type 0
CaptureFault text = OnCause (131014 < length text) 5 (OnCause ((datagram : List ℕ) → ¬ IsHexWord datagram text) 4 NoCause)

-- the first fault of these lines, of which the first has this number
abbrev pub CaptureFaultFrom : ℕ → List (List ℕ) → ScriptFault → Type 0
CaptureFaultFrom n [] fault = ⊥
CaptureFaultFrom n (text ∷ texts) fault =
    (CaptureFault text fault.code × (fault.line ≡ n))
    ⊎ (((code : ℕ) → ¬ CaptureFault text code) × CaptureFaultFrom (n + 1) texts fault)

-- datagrams are fed: so many of them are malformed, and the others show this
abbrev pub AreFed : List (List ℕ) → ℕ → List Shown → Type 0
AreFed [] malformed shown = (malformed ≡ 0) × (shown ≡ [])
AreFed (datagram ∷ datagrams) malformed shown =
    ((first : List Shown) × (rest : List Shown) × AreShownIn datagram first × AreFed datagrams malformed rest × (shown ≡ first ++ rest))
    ⊎ ((others : ℕ) × ¬ HasTlvs datagram × AreFed datagrams others shown × (malformed ≡ others + 1))

-- the first line of the text
abbrev pub watch_line : ℕ → ℕ → List ℕ
watch_line datagrams malformed = codes "watch datagrams=" ++ decimal datagrams ++ codes " malformed=" ++ decimal malformed ++ 10 ∷ []

-- and a line for each node that was seen
abbrev pub seen_line : Seen → List ℕ
seen_line s =
    codes "node " ++ id_text s.node.0 ++ codes " number=" ++ decimal s.number ++ codes " hash=" ++ hex_text s.hash
    ++ codes " conflicts=" ++ decimal s.conflicts ++ 10 ∷ []

abbrev pub watch_text : ℕ → ℕ → List Seen → List ℕ
watch_text datagrams malformed seen = watch_line datagrams malformed ++ flat_map seen_line seen

-- all lines are datagrams, and there are not too many bytes
pub record IsCapture (bytes : List ℕ) (datagrams : List (List ℕ)) : Type 0 where
  pub short : length bytes ≤ 2 ^ 24
  pub lines : AllZip IsCaptureLine datagrams (lines_of bytes)

-- the text of a capture: how many datagrams it has and how many of them are malformed, and what is seen of the others
pub record IsWatched (bytes text : List ℕ) : Type 0 where
  pub datagrams : List (List ℕ)
  pub capture : IsCapture bytes datagrams
  pub malformed : ℕ
  pub shown : List Shown
  pub fed : AreFed datagrams malformed shown
  pub seen : List Seen
  pub are_seen : AreSeen shown seen
  pub text_is : text ≡ watch_text (length datagrams) malformed seen

-- the first line with a fault of bytes that are not too many
pub record IsFaulty (bytes text : List ℕ) : Type 0 where
  pub short : length bytes ≤ 2 ^ 24
  pub fault : ScriptFault
  pub first : CaptureFaultFrom 1 (lines_of bytes) fault
  pub text_is : text ≡ refused_line fault.line fault.code

-- a source that is refused: too many bytes, or else a line with a fault
abbrev pub IsRefusedCapture : List ℕ → List ℕ → Type 0
IsRefusedCapture bytes text = ((2 ^ 24 < length bytes) × (text ≡ refused_line 0 15)) ⊎ IsFaulty bytes text

-- what `watch` makes of the bytes of its source: a status and a text
abbrev pub IsWatchOf : List ℕ → ℕ → List ℕ → Type 0
IsWatchOf bytes status text = ((status ≡ 0) × IsWatched bytes text) ⊎ ((status ≡ 2) × IsRefusedCapture bytes text)

-- and a sink grew by that text
abbrev pub WritesWatch : List ℕ → ℕ → Option (List ℕ) → Option (List ℕ) → Type 0
WritesWatch bytes status before after = (text : List ℕ) × IsWatchOf bytes status text × Appends before after text

-- or the writing was cut by a fault, and a sink grew by as much of the text
abbrev pub CutsWatch : List ℕ → IoFault → Option (List ℕ) → Option (List ℕ) → Type 0
CutsWatch bytes fault before after = (status : ℕ) × (text : List ℕ) × IsWatchOf bytes status text × AppendsCut fault before after text

-- out of memory, before the text was known or after
abbrev pub StarvesWatch : List ℕ → Option (List ℕ) → Option (List ℕ) → Type 0
StarvesWatch bytes before after = Appends before after [] ⊎ CutsWatch bytes NoMemory before after
