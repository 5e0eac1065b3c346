use Rattle.hn_base.proofs.Names.{subst}
use Rattle.hn_ula.proofs.Names.{NodeId, IsGreatestFound}
use Rattle.hn_ula.proofs.FoundInLists.{own_of}
use Rattle.hn_ula.proofs.found.own.Goals as goal

pub returns : goal.returns
returns c =
    own_of c.args.router.now c.args.list.now c.greatest_of.result c.requires
    (subst (λ (id : NodeId). IsGreatestFound c.args.list.now id c.greatest_of.result) c.id.ensures c.greatest_of.ensures)
