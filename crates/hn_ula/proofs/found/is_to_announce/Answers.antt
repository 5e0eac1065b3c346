use Rattle.hn_base.proofs.Names.{◌↔◌, IsTrue, List, refl, subst, false≢true}
use Rattle.hn_ula.proofs.Names.{NodeId, IsToAnnounce, HasGreater}
use Rattle.hn_ula.proofs.FoundInLists.{by_greater, by_neither, fails_of}
use Rattle.hn_ula.proofs.found.is_to_announce.Goals as goal

pub returns-then-has_neither : goal.returns-then-has_neither
returns-then-has_neither c =
    by_greater c.args.router.now c.args.list.now c.args.foreign c.has_greater.result c.requires.list c.requires.foreign (c.if-has_neither.ensures.0 refl)
    (subst (λ (reach : List NodeId). IsTrue c.has_greater.result ↔ HasGreater reach c.args.router.now.id) c.reach.ensures
    (subst (λ (id : NodeId). IsTrue c.has_greater.result ↔ HasGreater c.reach.result.now id) c.id.ensures c.has_greater.ensures))

pub returns-else-has_neither : goal.returns-else-has_neither
returns-else-has_neither c =
    fails_of c.has_neither.result (IsToAnnounce c.args.router.now) c.if-has_neither.false
    (by_neither c.args.router.now c.args.list.now c.args.foreign c.requires.list c.requires.foreign (λ is. false≢true (c.if-has_neither.ensures.1 is)))
