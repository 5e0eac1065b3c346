use Rattle.hn_base.proofs.Names.{refl, All-contains}
use Rattle.hn_table.proofs.Names.{IsNoOuter}
use Rattle.hn_table.proofs.Outers.{each, each_more, has_this}
use Rattle.hn_table.proofs.outer.outer_among.Goals as goal

pub returns-then-is_outer-clause-found : goal.returns-then-is_outer-clause-found
returns-then-is_outer-clause-found c = record {
  delegation = c.d-item.result;
  among = has_this c.args.delegations.now c.loop-d.d-index c.d-item.result c.loop-d-test.true c.d-item.is;
  outer = c.is_outer.ensures.yes c.if-is_outer.true;
  is_it = refl;
}

pub loop-d-preserved : goal.loop-d-preserved
loop-d-preserved c =
    each_more c.args.delegations.now c.loop-d.d-index (IsNoOuter c.args.age c.args.prefix.now) c.d-item.result c.loop-d-test.true c.d-item.is c.loop-d.invariant
    (c.is_outer.ensures.no c.if-is_outer.false)

pub returns-clause-none : goal.returns-clause-none
returns-clause-none c d among =
    let none = IsNoOuter c.args.age c.args.prefix.now in
    All-contains none c.args.delegations.now d (each c.args.delegations.now c.loop-d.d-index none c.loop-d-test.false c.loop-d.invariant) among
