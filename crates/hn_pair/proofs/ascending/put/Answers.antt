use Rattle.hn_base.proofs.Names.{◌∙◌, ap, sym, suc, take, drop, length, ◌<◌, set_split, take-append-drop}
use Rattle.hn_pair.proofs.AroundPair.{joined, put_at, put_between}
use Rattle.hn_pair.proofs.ascending.put.Goals as goal

pub returns-in-Ok-Some-clause-updates : goal.returns-in-Ok-Some-clause-updates
returns-in-Ok-Some-clause-updates g c =
    let key = g.T.Paired.pair_of in
    let xs = c.args.items.now.items in
    let i = c.in-Ok-Some.place in
    let within : i < length xs = rw (← c.deref.ensures.value) c.in-Ok-Some.ensures.0 in
    put_at key c.args.pair.now xs c.deref.result.now _ i c.args.new c.deref.ensures.value c.in-Ok-Some.ensures c.requires.ascending c.requires.of_pair
    (set_split xs i c.in-Ok-Some.x within ∙ ap (λ m. joined key (take i xs) m (drop (suc i) xs)) (sym c.in-Ok-Some.is-1))

pub returns-in-Ok-Some-clause-ascending : goal.returns-in-Ok-Some-clause-ascending
returns-in-Ok-Some-clause-ascending g c = (returns-in-Ok-Some-clause-updates g c).ascending

pub returns-in-Ok-None-clause-updates : goal.returns-in-Ok-None-clause-updates
returns-in-Ok-None-clause-updates g c =
    let key = g.T.Paired.pair_of in
    let xs = c.args.items.now.items in
    let i = c.in-Ok-None.place in
    put_at key c.args.pair.now xs c.deref.result.now _ i c.args.new c.deref.ensures.value c.in-Ok-None.ensures c.requires.ascending c.requires.of_pair
    (c.remove.ensures.items ∙ ap (λ m. joined key (take i xs) m (drop (suc i) xs)) (sym c.in-Ok-None.is-1))

pub returns-in-Ok-None-clause-ascending : goal.returns-in-Ok-None-clause-ascending
returns-in-Ok-None-clause-ascending g c = (returns-in-Ok-None-clause-updates g c).ascending

pub returns-in_ok-insert-in-Err-Some-clause-updates : goal.returns-in_ok-insert-in-Err-Some-clause-updates
returns-in_ok-insert-in-Err-Some-clause-updates g c =
    let key = g.T.Paired.pair_of in
    let xs = c.args.items.now.items in
    let i = c.in-Err-Some.place in
    put_between key c.args.pair.now xs c.deref.result.now _ i c.args.new c.deref.ensures.value c.in-Err-Some.ensures c.requires.ascending c.requires.of_pair
    (c.in_ok-insert-in-Err-Some.ensures.items ∙ ap (λ m. joined key (take i xs) m (drop i xs)) (sym c.in-Err-Some.is-1))

pub returns-in_ok-insert-in-Err-Some-clause-ascending : goal.returns-in_ok-insert-in-Err-Some-clause-ascending
returns-in_ok-insert-in-Err-Some-clause-ascending g c = (returns-in_ok-insert-in-Err-Some-clause-updates g c).ascending

pub returns-in-Err-None-clause-updates : goal.returns-in-Err-None-clause-updates
returns-in-Err-None-clause-updates g c =
    let key = g.T.Paired.pair_of in
    let xs = c.args.items.now.items in
    let i = c.in-Err-None.field-0-0 in
    put_between key c.args.pair.now xs c.deref.result.now _ i c.args.new c.deref.ensures.value c.in-Err-None.ensures c.requires.ascending c.requires.of_pair
    (sym (take-append-drop i xs) ∙ ap (λ m. joined key (take i xs) m (drop i xs)) (sym c.in-Err-None.is-1))
