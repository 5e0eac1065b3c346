use Rattle.hn_base.proofs.Names.{◌≡◌, ◌∙◌, [], List, Some, length, refl, slice_get, take, subst, sym, ap, take_all, slice_get_read, Each}
use Rattle.hn_addr.proofs.Names.{Assigned, front_at, seen_by, IsChosenFor, none_chosen, Choosing}
use Rattle.hn_base.proofs.RulesInTurn.{each_more}
use Rattle.hn_addr.proofs.OneChoosing.{draws_none, draws_more, took_all}
use Rattle.hn_addr.proofs.choosing.choose_all.Goals as goal

pub loop-c-init : goal.loop-c-init
loop-c-init g c = record {
  chosen = c.new-choosing.ensures;
  drew = draws_none (g.D.Draw.words c.args.draw.now) [] c.new-choosing.result.words (ap (λ (p : Choosing). p.words) c.new-choosing.ensures);
}

pub loop-c-preserved : goal.loop-c-preserved
loop-c-preserved g c =
    let items = c.as_slice-c-items.result.now in
    let n = c.loop-c.c-index in
    let at : slice_get items n ≡ Some c.c-item.result = slice_get_read items (length items) n c.c-item.result refl c.loop-c-test.true c.c-item.is in
    let rule = IsChosenFor (seen_by c.args.router.now) c.args.router.now.addresses in
    record {
      chosen = subst (λ (seen : List Assigned). Each rule seen none_chosen c.step.new.self) (sym (front_at items n c.c-item.result at))
          (each_more rule (take n items) c.c-item.result none_chosen c.loop-c.choosing c.step.new.self c.loop-c.invariant.chosen c.in_ok-step.ensures.chosen);
      drew = draws_more c.words_join.ensures (g.D.Draw.words c.args.draw.now) (g.D.Draw.words c.loop-c.draw) (g.D.Draw.words c.step.new.draw)
          [] c.loop-c.choosing.words c.step.new.self.words c.loop-c.invariant.drew c.in_ok-step.ensures.drew;
    }

pub returns-clause-chosen : goal.returns-clause-chosen
returns-clause-chosen g c =
    let items = c.as_slice-c-items.result.now in
    let all = take_all c.loop-c.c-index items c.loop-c-test.false in
    subst (λ (list : List Assigned). Each (IsChosenFor (seen_by c.args.router.now) c.args.router.now.addresses) list none_chosen c.loop-c.choosing)
    (all ∙ c.as_slice-c-items.ensures.value ∙ c.in_ok-list.ensures)
    c.loop-c.invariant.chosen

pub returns-clause-drew : goal.returns-clause-drew
returns-clause-drew g c = took_all (g.D.Draw.words c.args.draw.now) (g.D.Draw.words c.loop-c.draw) c.loop-c.choosing.words c.loop-c.invariant.drew
