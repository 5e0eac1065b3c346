use Rattle.hn_base.proofs.Names.{◌≡◌, ◌+◌, ◌∷◌, ◌++◌, take, drop, sym, ap, ◌∙◌, List}
use Rattle.hn_departed.proofs.Names.{Told, without_first}
use Rattle.hn_departed.proofs.FirstGoes.{stands_at, none_until, goes_at, one_more}
use Rattle.hn_departed.proofs.keeping.first_departed.Goals as goal

pub place-preserved : goal.place-preserved
place-preserved c =
    let queue = c.args.queue.now in
    let place = c.place.place in
    let told = c.in-Some.told.now in
    let after = c.in-Some.after.now in
    let is : drop place queue ≡ told ∷ after = c.place.invariant.rest ∙ c.in-Some.ensures.cases.0 in
    let any = sym c.is_any_no_later.ensures ∙ c.if-not-is_any_no_later.false in
    let rest = (stands_at queue place told after is).rest in
    record {
      within = one_more queue place told after is any;
      rest = rest;
      first = none_until queue place told after is any c.place.invariant.first ∙ ap (λ (ts : List Told). take (place + 1) queue ++ without_first ts) (sym rest);
    }

pub returns-then-not-is_any_no_later-clause-first : goal.returns-then-not-is_any_no_later-clause-first
returns-then-not-is_any_no_later-clause-first c =
    let queue = c.args.queue.now in
    let is : drop c.place.place queue ≡ c.in-Some.told.now ∷ c.in-Some.after.now = c.place.invariant.rest ∙ c.in-Some.ensures.cases.0 in
    goes_at queue c.place.place c.in-Some.told.now c.in-Some.after.now is (sym c.is_any_no_later.ensures ∙ c.if-not-is_any_no_later.true) c.place.invariant.first
