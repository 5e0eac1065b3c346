use Rattle.std.specs.Prelude.{◌≡◌, ℕ, ◌^◌, ◌<◌, ◌≤◌, ◌⊎◌, List, [], ◌∷◌, ◌++◌, Option, Result, Ok, Err, length, codes}
use Rattle.std.specs.Fmt.{decimal}
use Rattle.std.specs.Io.KnownBytes.{Appends}
use Rattle.hn_io.specs.declared.fault.IoFault.{IoFault}
use Rattle.hn_io.specs.declared.fault.IoFault.TheVariants.{Failed, NoMemory}
use Rattle.hn_tlv.specs.Grammar.{HasTlvs, FirstFault}
use Rattle.hn_decode.specs.Nested.{IsDecodeText}
use Rattle.hn_streams.specs.Output.{AppendsCut}
use Rattle.hn_streams.specs.Refusal.{refused_line}
use Rattle.hn_forms.specs.HexText.{IsHexText, IsNoHexText}

-- the line of octets that are no list of TLVs: the place and the cause of the first fault
abbrev pub malformed_line : ℕ → ℕ → List ℕ
malformed_line place why = codes "malformed place=" ++ decimal place ++ codes " why=" ++ decimal why ++ 10 ∷ []

-- octets that are no list of TLVs
pub record AreMalformedOctets (octets : List ℕ) (status : ℕ) (text : List ℕ) : Type 0 where
  pub place : ℕ
  pub why : ℕ
  pub fault : FirstFault octets place why
  pub status_is : status ≡ 2
  pub text_is : text ≡ malformed_line place why

-- the status of what was written, which the sink or the memory may cut; this one if it was written whole
abbrev pub written_status : Result (Unit {0}) IoFault → ℕ → ℕ
written_status (Ok _) whole = whole
written_status (Err Failed) whole = 4
written_status (Err NoMemory) whole = 6

-- what is written of octets, and with which status
abbrev pub IsContentsOf : List ℕ → ℕ → List ℕ → Type 0
IsContentsOf octets status text = ((status ≡ 0) × IsDecodeText octets text) ⊎ AreMalformedOctets octets status text

-- a source that is refused with a code: more than 2^24 bytes with 15, no hexadecimal text with 4
abbrev pub IsRefusedSource : List ℕ → ℕ → List ℕ → Type 0
IsRefusedSource bytes status text =
    (status ≡ 2)
    × (((2 ^ 24 < length bytes) × (text ≡ refused_line 0 15)) ⊎ ((length bytes ≤ 2 ^ 24) × IsNoHexText bytes × (text ≡ refused_line 0 4)))

-- a source of hexadecimal text, and what is written of its octets
pub record IsDecoded (bytes : List ℕ) (status : ℕ) (text : List ℕ) : Type 0 where
  pub octets : List ℕ
  pub short : length bytes ≤ 2 ^ 24
  pub hex_text : IsHexText bytes octets
  pub contents : IsContentsOf octets status text

-- what `decode` makes of the bytes of its source: a status and a text
abbrev pub IsDecodeOf : List ℕ → ℕ → List ℕ → Type 0
IsDecodeOf bytes status text = IsRefusedSource bytes status text ⊎ IsDecoded bytes status text

-- and a sink grew by that text
abbrev pub WritesDecode : List ℕ → ℕ → Option (List ℕ) → Option (List ℕ) → Type 0
WritesDecode bytes status before after = (text : List ℕ) × IsDecodeOf bytes status text × Appends before after text

-- or the writing was cut by a fault, and a sink grew by as much of the text
abbrev pub CutsDecode : List ℕ → IoFault → Option (List ℕ) → Option (List ℕ) → Type 0
CutsDecode bytes fault before after = (status : ℕ) × (text : List ℕ) × IsDecodeOf bytes status text × AppendsCut fault before after text

-- the bytes are hexadecimal text of a list of TLVs, and not too many
pub record SpellsTlvs (bytes : List ℕ) : Type 0 where
  pub octets : List ℕ
  pub short : length bytes ≤ 2 ^ 24
  pub hex_text : IsHexText bytes octets
  pub tlvs : HasTlvs octets
