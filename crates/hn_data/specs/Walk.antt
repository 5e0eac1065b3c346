-- A walk over the TLVs of node data.
use Rattle.std.specs.Prelude.{◌≡◌, ℕ, ◌≤◌, List, take, length, Result, MatchResult}
use Rattle.hn_tlv.specs.Grammar.{PlainTlv, HasTlvs, IsTlvAt}
use Rattle.hn_typed.specs.declared.fault.ItemFault.{ItemFault}
use Rattle.hn_typed.specs.declared.item.Item.{Item}
use Rattle.hn_typed.specs.Table.{IsItem}
use Rattle.hn_typed.specs.Fault.{IsItemFault}
use Rattle.hn_typed.specs.View.{plain_item}

-- a place where a TLV begins, or the end: up to it the bytes are a list of TLVs
pub record IsTlvPlace (bytes : List ℕ) (at : ℕ) : Type 0 where
  pub within : at ≤ length bytes
  pub before : HasTlvs (take at bytes)

-- what a TLV decodes to: its item, or the cause why it decodes to none
abbrev pub Decodes : PlainTlv → Result Item ItemFault → Type 0
Decodes tlv found = MatchResult found (λ item. IsItem tlv (plain_item item)) (λ fault. (fault.kind ≡ tlv.kind) × IsItemFault tlv fault.why)

-- the TLV at a place, what it decodes to, and the place after it
abbrev pub IsFoundAt : List ℕ → ℕ → Result Item ItemFault × ℕ → Type 0
IsFoundAt bytes at found = (tlv : PlainTlv) × IsTlvAt bytes at tlv found.1 × Decodes tlv found.0
