use Rattle.hn_base.proofs.Names.{sym, subst, ◌∙◌, false≢true}
use Rattle.hn_pair.proofs.Names.{IsWished}
use Rattle.hn_pair.proofs.Keeping.{keeping_none, keeping_passed, keeping_kept, keeping_all}
use Rattle.hn_pair.proofs.ascending.wished.Goals as goal
use Rattle.hn_pair.proofs.ascending.wished.Goals.{then-is_wished+in_ok-push, else-is_wished}

pub loop-x-init : goal.loop-x-init
loop-x-init g c = rw c.in_ok-kept.ensures.items (keeping_none g.T.Paired.pair_of c.args.wishes.now c.args.items.now c.requires.ascending)

pub loop-x-preserved : goal.loop-x-preserved
loop-x-preserved g c =
    let key = g.T.Paired.pair_of in
    let xs = c.args.items.now in
    let x = c.x-item.result in
    elim c.if-is_wished.branch [
      | then-is_wished+in_ok-push w ↦
          let is : IsWished c.args.wishes.now (key x) = subst (IsWished c.args.wishes.now) c.pair.ensures (c.is_wished.ensures.0 w.if-is_wished.true) in
          rw (w.kept-is, w.in_ok-push.ensures.items) (keeping_kept key c.args.wishes.now xs c.loop-x.x-index x c.loop-x.kept.items c.loop-x-test.true c.x-item.is is c.loop-x.invariant)
      | else-is_wished w ↦
          let not : ¬ (IsWished c.args.wishes.now (key x)) = λ h. let yes = c.is_wished.ensures.1 (subst (IsWished c.args.wishes.now) (sym c.pair.ensures) h) in
          false≢true (sym w.if-is_wished.false ∙ yes) in
          rw w.kept-is (keeping_passed key c.args.wishes.now xs c.loop-x.x-index x c.loop-x.kept.items c.loop-x-test.true c.x-item.is not c.loop-x.invariant)
    ]

pub returns : goal.returns
returns g c = keeping_all g.T.Paired.pair_of c.args.wishes.now c.args.items.now c.loop-x.x-index c.loop-x.kept.items c.loop-x-test.false c.loop-x.invariant
