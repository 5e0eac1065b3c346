use Rattle.hn_base.proofs.Names.{Bool, ◌↔◌, IsTrue, sym, subst, PlainPrefix}
use Rattle.hn_ula.proofs.Names.{seen_by, IsOwnOf, AreGenerated}
use Rattle.hn_ula.proofs.FoundInLists.{has_own}
use Rattle.hn_ula.proofs.decision.has_generated.Goals as goal

pub own-requires : goal.own-requires
own-requires c = subst (AreGenerated (seen_by c.args.router.now)) (sym c.as_slice.ensures.value) c.in_ok-list.ensures

pub returns : goal.returns
returns c =
    subst (λ (b : Bool). IsTrue b ↔ ((p : PlainPrefix) × IsOwnOf c.args.router.now p)) (sym c.is_some.ensures)
    (has_own c.args.router.now c.own.result c.own.ensures)
