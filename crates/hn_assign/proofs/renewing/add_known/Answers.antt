use Rattle.hn_base.proofs.Names.{◌∙◌, ◌++◌, drop, sym, Contains}
use Rattle.hn_assign.proofs.Joined.{none_added, one_added}
use Rattle.hn_assign.proofs.renewing.add_known.Goals as goal

pub returns-then-contains-clause-those : goal.returns-then-contains-clause-those
returns-then-contains-clause-those c x =
    none_added c.args.changed.now (c.args.all.now.items ++ drop c.args.next c.args.fresh.now) c.args.a.now x (c.contains.ensures.0 c.if-contains.true)

pub returns-clause-those : goal.returns-clause-those
returns-clause-those c x =
    let not : ¬ (Contains c.args.changed.now c.args.a.now.key.node) = λ there. absurd (let clash = sym c.if-contains.false ∙ c.contains.ensures.1 there in cc) in
    rw c.in_ok-push.ensures.items
    (one_added c.args.changed.now c.add_below.new.all.items (drop c.in_ok-place.place c.args.fresh.now) (c.args.all.now.items ++ drop c.args.next c.args.fresh.now) c.args.a.now x
    c.in_ok-place.ensures.moved not)
