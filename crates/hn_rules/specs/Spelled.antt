-- What is answered and sent is made of bytes.
use Rattle.std.specs.Prelude.{◌≡◌, All}
use Rattle.hn_base.specs.Byte.{IsByte}
use Rattle.hn_tlv.specs.Grammar.{PlainTlv, IsTlv, spelling}
use Rattle.hn_rules.specs.declared.answers.Answer.{Answer}
use Rattle.hn_rules.specs.declared.running.Running.{Running}

-- an answer is what is written for a TLV
abbrev pub IsSpelled : Answer → Type 0
IsSpelled a = (tlv : PlainTlv) × IsTlv tlv × (a.tlv ≡ spelling tlv)

-- so is each of the answers so far, and each datagram that was sent so far is a list of bytes
pub record AreOfBytes (r : Running) : Type 0 where
  pub answers : All IsSpelled r.answers
  pub sends : All (λ o. All IsByte o.bytes) r.done.sends
