use Rattle.hn_base.proofs.Names.{[], ◌∷◌, ◌++◌}
use Rattle.hn_watch.proofs.Names.{plain}
use Rattle.hn_watch.proofs.reading.shown_in.Goals as goal

pub loop-tlv-preserved : goal.loop-tlv-preserved
loop-tlv-preserved c =
    let here = c.in-Some.ensures.found in
    let so_far = c.loop-tlv.invariant in
    record {
      within = here.within;
      tlvs = so_far.tlvs ++ plain c.in-Some.tlv ∷ [];
      list = c.list_grows.ensures c.args.datagram.now c.loop-tlv.place c.in-Some.after (plain c.in-Some.tlv) so_far.tlvs so_far.list here;
      shown_by = c.in_ok-add_shown.ensures so_far.tlvs so_far.shown_by;
    }
