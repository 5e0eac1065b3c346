use Rattle.hn_base.proofs.Names.{◌↔◌, IsTrue, refl, subst}
use Rattle.hn_ula.proofs.Names.{NodeId, HasTwo, HasOtherOf}
use Rattle.std.specs.Prelude.{false}
use Rattle.hn_ula.proofs.FoundInLists.{by_other, by_none, fails_of}
use Rattle.hn_ula.proofs.found.has_two.Goals as goal

pub returns-in-Some : goal.returns-in-Some
returns-in-Some c =
    by_other c.args.router.now c.args.list.now c.args.own.now c.in-Some.own c.has_other.result c.requires.list c.requires.own c.in-Some.is
    (subst (λ (id : NodeId). IsTrue c.has_other.result ↔ HasOtherOf c.args.list.now id c.in-Some.own) c.id.ensures c.has_other.ensures)

pub returns-in-None : goal.returns-in-None
returns-in-None c = fails_of false (HasTwo c.args.router.now) refl (by_none c.args.router.now c.args.own.now c.requires.own c.in-None.is)
