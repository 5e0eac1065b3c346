use Rattle.hn_base.proofs.Names.{◌↔◌, IsTrue, sym, subst}
use Rattle.hn_ula.proofs.Names.{NodeId, MustGo, HasPrefixAbove}
use Rattle.hn_ula.proofs.FoundInLists.{by_above, no_line, fails_of}
use Rattle.hn_ula.proofs.found.must_go.Goals as goal

pub returns-else-foreign : goal.returns-else-foreign
returns-else-foreign c =
    by_above c.args.router.now c.args.list.now c.args.own.now c.args.foreign c.has_above.result c.requires.list c.requires.own (sym c.if-is_some.ensures) c.requires.foreign c.if-foreign.false
    (subst (λ (id : NodeId). IsTrue c.has_above.result ↔ HasPrefixAbove c.args.list.now id) c.id.ensures c.has_above.ensures)

pub returns-else-is_some : goal.returns-else-is_some
returns-else-is_some c = fails_of c.is_some.result (MustGo c.args.router.now) c.if-is_some.false (no_line c.args.router.now c.args.own.now c.requires.own (sym c.if-is_some.ensures))
