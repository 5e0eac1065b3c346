use Rattle.hn_base.proofs.Names.{Contains, on_ok_weaker}
use Rattle.hn_assign.proofs.Names.{Advertised}
use Rattle.hn_assign.proofs.AdvertisedBy.{both}
use Rattle.hn_assign.proofs.Renewals.{of_changed}
use Rattle.hn_assign.proofs.renewing.add_if_changed.Goals as goal

pub returns : goal.returns
returns c =
    let node = c.args.node.now in
    let among : Contains c.args.changed.now node.id = c.contains.ensures.0 c.if-not-contains.false in
    on_ok_weaker c.add_other.result (λ adds (a : Advertised). both (adds a) (of_changed c.args.own.0 c.args.changed.now node c.args.items.now.items a among)) c.add_other.ensures
