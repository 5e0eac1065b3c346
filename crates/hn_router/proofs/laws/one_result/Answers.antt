use Rattle.hn_base.proofs.Names.{◌≡◌, ◌∙◌, ap, sym, subst, Begins}
use Rattle.hn_router.proofs.Names.{Done, Running, State, begun_at}
use Rattle.hn_router.specs.Act.{Happened}
use Rattle.hn_router.proofs.Keeping.{one_due}
use Rattle.hn_router.proofs.OneEvents.{OneEventLaws, sole_event}
use Rattle.hn_router.proofs.laws.one_result.Goals as goal

pub returns : goal.returns
unfolding Happened
returns c now event s a b da db stream (left, ran, (due, is_due, is_a), is_da) (right, also, (other, is_other, is_b), is_db) at_a at_b =
    let rules = c.rules_have_one_result.ensures in
    let laws : OneEventLaws = record {
      one_list = c.list_is_unique.ensures;
      no_list = c.first_fault_is_unique.ensures.no_list;
      one_place = c.first_fault_is_unique.ensures.one;
      refresh = rules.refresh;
      arrival = rules.arrival;
      tick = rules.tick;
      attaching = rules.attaching;
      restarting = rules.restarting;
    } in
    let at_left : Begins left.done.words stream = subst (λ (d : Done). Begins d.words stream) is_da at_a in
    let at_right : Begins right.done.words stream = subst (λ (d : Done). Begins d.words stream) is_db at_b in
    let same : left ≡ right = (sole_event laws event).one stream (begun_at now s) left right ran also at_left at_right in
    let one : due ≡ other = one_due c.next_due_is_one.ensures event (begun_at now s) left right due other same is_due is_other in
    let made : ◌≡◌ {A = State} (record left.state { due = due }) (record right.state { due = other }) = λ i. record (same i).state { due = one i } in
    (is_a ∙ made ∙ sym is_b, is_da ∙ ap (λ (x : Running). x.done) same ∙ sym is_db)
