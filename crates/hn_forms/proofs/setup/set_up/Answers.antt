use Rattle.hn_base.proofs.Names.{◌≡◌, ◌∙◌, ℕ, List, ◌∷◌, [], ◌++◌, take, sym, ap, subst, take_more}
use Rattle.hn_forms.proofs.Names.{NodeLine, IsSetUp}
use Rattle.hn_forms.proofs.Setups.{attached_alone, set_up_more, overfull_at}
use Rattle.hn_forms.proofs.setup.set_up.Goals as goal

pub loop-number-preserved : goal.loop-number-preserved
loop-number-preserved g c =
    let lines = c.args.lines.now in
    let i = c.loop-number.number-index in
    let item = c.loop-number-item.result in
    let up = c.loop-number.invariant.set_up in
    let done = c.in-Ok.ensures.happened in
    let more = set_up_more c.args.id (take i lines) item c.args.now up.0 c.loop-number.router c.apply.new.router done.0 up.1 (sym c.is_too_many.ensures ∙ c.if-is_too_many.false) done.1 in
    let items = ap (λ (x : ℕ × NodeLine). take i lines ++ x ∷ []) c.loop-number-item.is in
    record {
      set_up = (
        up.0 ++ done.0.words,
        subst (λ (xs : List (ℕ × NodeLine)). IsSetUp c.args.id xs c.args.now (up.0 ++ done.0.words) c.apply.new.router) (items ∙ sym (take_more lines i item c.loop-number-test.true)) more,
        c.words_join.ensures (g.D.Draw.words c.args.draw.now) (g.D.Draw.words c.loop-number.draw) (g.D.Draw.words c.apply.new.draw) up.0 done.0.words up.2 done.2,
      );
      ends = c.in-Ok.ensures.ends ∙ c.loop-number.invariant.ends;
      moment = c.in-Ok.ensures.moment;
    }

pub returns-then-is_too_many-clause-overfull : goal.returns-then-is_too_many-clause-overfull
returns-then-is_too_many-clause-overfull g c number is =
    let up = c.loop-number.invariant.set_up in
    let same : c.loop-number-item.result.0 ≡ number = cc in
    overfull_at c.args.id c.args.lines.now c.loop-number.number-index c.loop-number-item.result c.args.now number up.0 c.loop-number.router c.loop-number-test.true c.loop-number-item.is same up.1
    (sym c.is_too_many.ensures ∙ c.if-is_too_many.true)

pub returns-clause-attached : goal.returns-clause-attached
returns-clause-attached g c = attached_alone c.loop-number.router.ports c.loop-number.invariant.ends
