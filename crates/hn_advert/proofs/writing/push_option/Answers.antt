use Rattle.hn_base.proofs.Names.{append_assoc}
use Rattle.hn_advert.proofs.writing.push_option.Goals as goal

pub returns-clause-written : goal.returns-clause-written
returns-clause-written c =
    rw (
      c.in_ok-extend_from_slice-5.ensures.items,
      c.in_ok-extend_from_slice-4.ensures.items,
      c.in_ok-extend_from_slice-3.ensures.items,
      c.in_ok-extend_from_slice-2.ensures.items,
      c.in_ok-extend_from_slice.ensures.items,
      c.to_be_bytes.ensures,
      c.to_be_bytes-2.ensures,
      c.to_be_bytes-3.ensures,
      c.len-len.ensures.value,
      c.bits.ensures.value,
    ) (simp append_assoc)
