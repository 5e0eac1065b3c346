use Rattle.hn_base.proofs.Names.{◌∙◌, subst}
use Rattle.hn_kept.specs.Kept.{Kept}
use Rattle.hn_kept.specs.Chosen.{ChoosesAddresses}
use Rattle.hn_router_c.specs.Calls.{Became}
use Rattle.hn_router_c.proofs.Refusals.{of_some}
use Rattle.hn_router_c.proofs.choosing.hn_router_choose_addresses.Goals as goal

pub returns-clause-chosen : goal.returns-clause-chosen
returns-clause-chosen c =
    let same = c.deref_mut.ensures.value in
    let status = c.choose_addresses-status in
    of_some c.in-Some.keeper.value c.in-Some.ensures.taken (λ before. Became (ChoosesAddresses c.args.now) before c.of.result.held status.result)
    (record {
      after = status.new.keeper;
      has = c.of.ensures;
      happened = λ done. subst (λ (k : Kept). ChoosesAddresses c.args.now k status.new.keeper) same (status.ensures.chosen done);
      as_before = λ refused. status.ensures.as_before refused ∙ same;
    })
