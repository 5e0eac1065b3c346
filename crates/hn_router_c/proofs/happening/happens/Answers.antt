use Rattle.hn_base.proofs.Names.{◌∙◌, subst}
use Rattle.hn_kept.specs.Kept.{Kept, Acts}
use Rattle.hn_router.specs.Act.{plain_event}
use Rattle.hn_router_c.specs.Calls.{Acted}
use Rattle.hn_router_c.proofs.Refusals.{of_some}
use Rattle.hn_router_c.proofs.happening.happens.Goals as goal

pub returns-clause-acted : goal.returns-clause-acted
returns-clause-acted c =
    let same = c.deref_mut.ensures.value in
    of_some c.in-Some.keeper.value c.in-Some.ensures.taken (λ before. Acted c.args.now (plain_event c.args.event.now) before c.of.result.held c.act-status.result)
    (record {
      after = c.act-status.new.keeper;
      has = c.of.ensures;
      happened = λ done. subst (λ (k : Kept). Acts c.args.now (plain_event c.args.event.now) k c.act-status.new.keeper) same (c.act-status.ensures.happened done);
      as_before = λ refused. c.act-status.ensures.as_before refused ∙ same;
    })
