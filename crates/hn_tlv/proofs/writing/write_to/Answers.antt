use Rattle.hn_base.proofs.Names.{arith, common_steps, get_or_default}
use Rattle.hn_tlv.proofs.Names.{PlainTlv, IsTlv}
use Rattle.hn_tlv.proofs.TlvAtPlace.{alone}
use Rattle.hn_tlv.proofs.writing.write_to.Goals as goal

pub returns-clause-spelled : goal.returns-clause-spelled
returns-clause-spelled c = grind (arith, common_steps)

pub returns-clause-read_back : goal.returns-clause-read_back
returns-clause-read_back c =
    let tlv : PlainTlv = record { kind = c.args.kind; value = c.args.value.now } in
    let valid : IsTlv tlv = record {
      kind_fits = omega (arith, c.ranges.kind.fits);
      length_fits = omega arith;
      bytes = λ k d lt. rw (get_or_default c.args.value.now k d 0 lt) (omega (arith, c.type_inv.value k));
    } in
    alone tlv _ valid (returns-clause-spelled c)
