use Rattle.hn_base.proofs.Names.{◌≡◌, ◌≢◌, ◌∙◌, false, sym, arith, on_ok_weaker, common_steps}
use Rattle.hn_assign.proofs.Names.{HasVersion, Advertised}
use Rattle.std.proofs.Common.{nat_eq}
use Rattle.hn_assign.proofs.AdvertisedBy.{other_some, both}
use Rattle.hn_assign.proofs.gathering.add_other.Goals as goal

pub returns : goal.returns
returns c =
    let entry = c.args.node.now in
    let other : entry.id.0 ≢ c.args.own.0 = λ same. absurd (let e : nat_eq entry.id.0 c.args.own.0 ≡ false = sym c.eq.ensures ∙ c.if-eq.false in grind (arith, common_steps)) in
    let version : HasVersion entry.body = c.version.ensures.found.0 c.if-is_none.ensures in
    on_ok_weaker c.add_node.result
    (λ adds (a : Advertised). both (adds a) (other_some c.args.own.0 entry c.args.items.now.items a (λ says. record { another = other; version = version; says = says })))
    c.add_node.ensures
