use Rattle.hn_base.proofs.Names.{take, get_or, sym, subst, All, take_all, take_more, All-push}
use Rattle.hn_router.proofs.Names.{OwnAddress, IsRangedAddress}
use Rattle.hn_router.proofs.Given.{address_fits}
use Rattle.hn_router.proofs.act.addresses_in_range.Goals as goal

pub loop-own-preserved : goal.loop-own-preserved
loop-own-preserved c =
    let list = c.args.list.now in
    let i = c.loop-own.own-index in
    let none : OwnAddress = (record { 0 = 0 }, 0) in
    let own : OwnAddress = get_or list i none in
    let fits : IsRangedAddress own = address_fits own c.address_in_range.ensures.endpoint c.address_in_range.ensures.address in
    subst (All IsRangedAddress) (sym (take_more list i none c.loop-own-test.true)) (All-push IsRangedAddress (take i list) own c.loop-own.invariant fits)

pub returns : goal.returns
returns c = subst (All IsRangedAddress) (take_all c.loop-own.own-index c.args.list.now c.loop-own-test.false) c.loop-own.invariant
