use Rattle.hn_base.proofs.Names.{List, sym, subst, HasAt}
use Rattle.hn_audit.proofs.Names.{NodeId, has_one, Assigned, Held, Pair, assigned_pair, pair_cmp, wish_pair, IsAtRest}
use Rattle.hn_audit.proofs.resting.act_at.Goals as goal

pub returns-then-is_at_rest : goal.returns-then-is_at_rest
returns-then-is_at_rest c o has =
    let wish = c.args.wish.now in
    let assigned : List Assigned = c.held.result.now.assigned in
    let adv = c.args.known.now in
    let found : HasAt assigned_pair (wish_pair wish) c.find-assignment.result assigned =
    subst (λ (p : Pair). HasAt assigned_pair p c.find-assignment.result assigned) c.pair_of.ensures c.find-assignment.ensures in
    let has_too : HasAt assigned_pair (wish_pair wish) o assigned = subst (λ (h : Held). HasAt assigned_pair (wish_pair wish) o h.assigned) (sym c.held.ensures) has in
    let same = has_one assigned_pair pair_cmp c.pairs_are_ordered.ensures.total (wish_pair wish) assigned c.find-assignment.result o c.as_slice-ascending.ensures.ascending found has_too in
    let rests : IsAtRest adv c.id.result.0 wish c.find-assignment.result = c.is_at_rest.ensures.0 c.if-is_at_rest.true in
    subst (IsAtRest adv c.args.s.now.router.id.0 wish) same (subst (λ (id : NodeId). IsAtRest adv id.0 wish c.find-assignment.result) c.id.ensures rests)
