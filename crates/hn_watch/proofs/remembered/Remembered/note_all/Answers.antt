use Rattle.hn_base.proofs.Names.{List, [], ◌∷◌, ◌++◌, take, sym, ◌∙◌, ap, subst, append_assoc, get_or, take_more, All-weaker}
use Rattle.hn_watch.proofs.Names.{Shown, Remembers, HasRoom}
use Rattle.hn_watch.proofs.Steps.{remembers_more}
use Rattle.hn_watch.proofs.remembered.Remembered.note_all.Goals as goal

pub loop-one-preserved : goal.loop-one-preserved
loop-one-preserved c =
    let shown = c.args.shown.now in
    let place = c.loop-one.one-index in
    let none : Shown = record { node = record { 0 = 0 }; number = 0; hash = [] } in
    let one = get_or shown place none in
    record {
      room = All-weaker (HasRoom c.loop-one.self) (HasRoom c.note.new.self) c.note.ensures.stays shown c.loop-one.invariant.room;
      held = λ before holds.
          let front = take place shown in
          let more = ap (λ xs. before ++ xs) (take_more shown place none c.loop-one-test.true) ∙ sym (append_assoc before front (one ∷ [])) in
          subst (λ (xs : List Shown). Remembers xs c.note.new.self) (sym more)
          (remembers_more (before ++ front) one c.loop-one.self c.note.new.self (c.loop-one.invariant.held before holds) c.note.ensures.noted);
    }
