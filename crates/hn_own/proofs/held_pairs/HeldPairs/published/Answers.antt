use Rattle.hn_base.proofs.Names.{◌≡◌, ◌<◌, ◌≤◌, ◌++◌, ◌∙◌, List, [], ◌∷◌, get_or, length, take, sym, ap, arith, cons_option, append-nil, take_all}
use Rattle.hn_own.proofs.Names.{AssignedPrefix, published_in}
use Rattle.hn_own.proofs.PairLists.{published_in-more, published_in-few, published_in-priority}
use Rattle.hn_own.proofs.held_pairs.HeldPairs.published.Given.{Over}
use Rattle.hn_own.proofs.held_pairs.HeldPairs.published.Goals as goal
use Rattle.hn_own.proofs.held_pairs.HeldPairs.published.Goals.{in-Some+in_ok-push, in_default}

pub loop-c-preserved : goal.loop-c-preserved
loop-c-preserved g c =
    let assigned = c.args.self.now.assigned in
    let i = c.loop-c.c-index in
    let items : c.as_slice-c-items.result.now ≡ assigned = c.as_slice-c-items.ensures.value ∙ ap (λ h. h.assigned) c.self.view_is in
    let within : i < length assigned = rw (← items) c.loop-c-test.true in
    let here : c.c-item.result ≡ get_or assigned i c.c-item.result = rw items at c.c-item.is in
    let more = sym (published_in-more assigned i c.c-item.result within here) in
    let before = published_in (take i assigned) in
    elim c.match-published_of.branch [
      | in-Some+in_ok-push w ↦
          w.published-is ∙ w.in_ok-push.ensures.ok ∙ ap (λ (xs : List AssignedPrefix). xs ++ w.in-Some.a ∷ []) c.loop-c.invariant ∙ ap (λ o. before ++ cons_option o []) w.in-Some.ensures ∙ more
      | in_default w ↦ w.published-is ∙ c.loop-c.invariant ∙ sym (append-nil before) ∙ ap (λ o. before ++ cons_option o []) w.in_default.ensures ∙ more
    ]

-- after the loop it went over all assignments
all : (g : Over) (c : goal.After-loop-c g) → c.loop-c.published ≡ published_in c.self.inside.held.assigned
all g c =
    let assigned = c.self.inside.held.assigned in
    let same : c.args.self.now.assigned ≡ assigned = sym (ap (λ h. h.assigned) c.self.view_is) in
    let past : length assigned ≤ c.loop-c.c-index = rw (← c.as_slice-c-items.ensures.value) c.loop-c-test.false in
    c.loop-c.invariant ∙ ap (λ xs. published_in (take c.loop-c.c-index xs)) same ∙ ap published_in (take_all c.loop-c.c-index assigned past)

pub returns-clause-few : goal.returns-clause-few
returns-clause-few g c =
    let few = c.self.invariant.few in
    rw (all g c) (omega (arith, published_in-few c.self.inside.held.assigned))

pub returns-clause-priority : goal.returns-clause-priority
returns-clause-priority g c = rw (all g c) (published_in-priority c.self.inside.held.assigned c.self.invariant.priority)
