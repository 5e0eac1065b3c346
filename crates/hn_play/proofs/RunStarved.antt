-- Memory ends after a datagram was taken.
use Rattle.hn_base.proofs.Names.{◌≡◌, ◌≤◌, ◌+◌, inl, inr, ℕ, List, take, Option, Some, refl, subst, arith, length-take, bytes_eq, bytes_eq-Decides, cases_Bool, IfSome}
use Rattle.hn_wire.specs.declared.datagram.Datagram.{Datagram}
use Rattle.hn_wire.specs.Wires.{Arrived, Sends, TakesAt, arrived}
use Rattle.hn_play.proofs.Names.{Carried, Other}
use Rattle.hn_play.specs.Carrying.{CarriesOver, IsCarried, Starves, sent_from}
use Rattle.hn_play.specs.Stage.{OverWire}
use Rattle.hn_play.specs.declared.carrying.Carried.TheVariants.{Same}

-- what was taken is the bytes themselves, or others
what_came : (bytes : List ℕ) (got : Arrived) → (carried : Carried) × IsCarried bytes (Some got) carried
what_came bytes got = elim (cases_Bool (bytes_eq got.bytes bytes)) [
  | inl same ↦ (Same, (bytes_eq-Decides got.bytes bytes).0 same)
  | inr fails ↦ (Other got.bytes, (refl, λ is. let same = (bytes_eq-Decides got.bytes bytes).1 is in absurd cc))
]

-- so the bytes were carried to something
pub starved_after : (base : ℕ) (bytes : List ℕ) (before between after : Option (List Datagram)) (o : Option (ℕ × ℕ)) (x : ℕ × ℕ) (buf : List ℕ)
    → Sends (sent_from base bytes) before between → o ≡ Some x → TakesAt (base + 1) (arrived o buf) between after → IfSome o (λ (t : ℕ × ℕ). t.0 ≤ 65507)
    → Starves bytes (OverWire base before) (OverWire base after)
starved_after base bytes before between after o x buf sends is takes count =
    let got : Arrived = record { from = x.1; bytes = take x.0 buf } in
    let few : x.0 ≤ 65507 = subst (λ (p : Option (ℕ × ℕ)). IfSome p (λ (t : ℕ × ℕ). t.0 ≤ 65507)) is count in
    let long = length-take x.0 buf in
    let came = what_came bytes got in
    let over : CarriesOver base bytes came.0 before after = record {
      between = between;
      sends = sends;
      got = Some got;
      short = omega (arith, few, long);
      takes = subst (λ (p : Option (ℕ × ℕ)). TakesAt (base + 1) (arrived p buf) between after) is takes;
      is_carried = came.1;
    } in
    inr (inr (came.0, (after, over, refl)))
