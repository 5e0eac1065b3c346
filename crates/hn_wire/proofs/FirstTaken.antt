-- What was taken is the first that waits.
use Rattle.hn_base.proofs.Names.{◌≡◌, ◌∙◌, ◌++◌, ℕ, List, Some, length, take, get_or, refl, ap, ◌==◌, remove, take_at, position-Some, slice_get_read}
use Rattle.hn_wire.specs.declared.datagram.Datagram.{Datagram}
use Rattle.hn_wire.specs.Wires.{first_at, TakesFirst}

pub takes_first : (at place : ℕ) (d : Datagram) (front back : List ℕ) (before after : List Datagram) → first_at at before ≡ Some place → d ≡ get_or before place d → front ≡ d.bytes
    → after ≡ remove before place → TakesFirst at (record { from = d.from; bytes = take (length d.bytes) (front ++ back) }) before after
takes_first at place d front back before after first is bytes rest =
    let within = position-Some (λ (x : Datagram). x.to == at) before place d first in
    record {
      place = place;
      datagram = d;
      first = first;
      is_first = slice_get_read before (length before) place d refl within.0 is;
      from_is = refl;
      bytes_are = take_at front back (length d.bytes) (ap length bytes) ∙ bytes;
      rest = rest;
    }
