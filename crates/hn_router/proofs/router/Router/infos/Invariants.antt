use Rattle.hn_base.proofs.Names.{take}
use Rattle.hn_router.proofs.InfoLists.{AreInfosOf}
use Rattle.hn_router.proofs.router.Router.infos.Given as goal

abbrev pub invariant-loop-c : goal.invariant-loop-c
invariant-loop-c l = AreInfosOf l.usable.items l.e (take l.c-index l.c-items) l.infos
