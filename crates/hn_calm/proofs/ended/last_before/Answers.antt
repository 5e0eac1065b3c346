use Rattle.hn_base.proofs.Names.{◌∙◌, List, subst, take_all, arith}
use Rattle.hn_world.specs.declared.member.Member.{Member}
use Rattle.hn_calm.specs.Home.{LastBefore}
use Rattle.hn_calm.proofs.LastHomes.{OneMore, last_begun, last_more, one_running, one_stopped}
use Rattle.hn_calm.proofs.ended.last_before.Goals as goal
use Rattle.hn_calm.proofs.ended.last_before.Goals.{then-m+in_ok-lasts_before, else-m}

pub loop-m-init : goal.loop-m-init
loop-m-init c = record {
  all = c.members-m-items.ensures;
  so_far = last_begun c.args.r.now c.in_ok-first.first c.in_ok-first.ensures;
}

pub loop-m-preserved : goal.loop-m-preserved
loop-m-preserved c =
    let m = c.m-item.result in
    let one : OneMore m c.loop-m.first c.if-m.first = elim c.if-m.branch [
      | then-m+in_ok-lasts_before w ↦
          let least = w.min-first.ensures in
          let is = w.first-is in
          one_running m c.loop-m.first w.in_ok-lasts_before.field-0 c.if-m.first w.if-m.true w.in_ok-lasts_before.ensures (omega (arith, least, is))
      | else-m w ↦ one_stopped m c.loop-m.first c.if-m.first (λ runs. let no = w.if-m.false in cc) (let is = w.first-is in omega (arith, is))
    ] in
    record {
      all = c.loop-m.invariant.all;
      so_far = last_more c.args.r.now c.members-m-items.result.now c.loop-m.m-index m _ c.loop-m.first c.if-m.first c.loop-m-test.true c.m-item.is c.loop-m.invariant.so_far one;
    }

pub returns : goal.returns
returns c =
    subst (λ (ms : List Member). LastBefore c.args.r.now ms c.loop-m.first)
    (take_all c.loop-m.m-index c.members-m-items.result.now (omega (arith, c.loop-m-test.false)) ∙ c.loop-m.invariant.all) c.loop-m.invariant.so_far
