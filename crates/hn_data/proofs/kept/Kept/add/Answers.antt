use Rattle.hn_base.proofs.Names.{List, [], ◌∷◌, ◌++◌, subst, on_ok_weaker, append-nil}
use Rattle.hn_data.proofs.Names.{plain, PlainItem, plain_item, IsReading}
use Rattle.hn_data.proofs.OneMoreItem.{reads_one, reads_none, readings_join}
use Rattle.hn_data.proofs.kept.Kept.add.Goals as goal

pub returns-in-Ok : goal.returns-in-Ok
returns-in-Ok c =
    let tlv = plain c.args.tlv.now in
    let item = plain_item c.in-Ok.item in
    on_ok_weaker c.add_item.result (λ more tlvs kept.
    (kept.0 ++ item ∷ [], readings_join tlvs (tlv ∷ []) kept.0 (item ∷ []) kept.1 (reads_one tlv item c.in-Ok.ensures.item), more kept.0 kept.2)) c.add_item.ensures

pub returns-in-Err : goal.returns-in-Err
returns-in-Err c tlvs kept =
    let tlv = plain c.args.tlv.now in
    let read = readings_join tlvs (tlv ∷ []) kept.0 [] kept.1 (reads_none tlv c.in-Err.ensures.at_item) in
    (kept.0, subst (λ (xs : List PlainItem). IsReading (tlvs ++ tlv ∷ []) xs) (append-nil kept.0) read, kept.2)
