use Rattle.hn_base.proofs.Names.{sym, subst}
use Rattle.hn_ula.proofs.Names.{seen_by, AreGenerated}
use Rattle.hn_ula.proofs.found.find.Goals as goal

pub own-own-requires : goal.own-own-requires
own-own-requires c = subst (AreGenerated (seen_by c.args.router.now)) (sym c.as_slice-list.ensures.value) c.in_ok-list.ensures

pub must_go-must_go-requires-clause-list : goal.must_go-must_go-requires-clause-list
must_go-must_go-requires-clause-list c = subst (AreGenerated (seen_by c.args.router.now)) (sym c.as_slice-list.ensures.value) c.in_ok-list.ensures

pub has_two-has_two-requires-clause-list : goal.has_two-has_two-requires-clause-list
has_two-has_two-requires-clause-list c = subst (AreGenerated (seen_by c.args.router.now)) (sym c.as_slice-list.ensures.value) c.in_ok-list.ensures

pub is_to_announce-is_to_announce-requires-clause-list : goal.is_to_announce-is_to_announce-requires-clause-list
is_to_announce-is_to_announce-requires-clause-list c = subst (AreGenerated (seen_by c.args.router.now)) (sym c.as_slice-list.ensures.value) c.in_ok-list.ensures
