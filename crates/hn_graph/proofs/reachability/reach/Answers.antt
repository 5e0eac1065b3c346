use Rattle.hn_base.proofs.Names.{rules, ◌≡◌, ◌↔◌, ◌∷◌, ◌++◌, ◌+◌, ◌∙◌, [], List, ℕ, length, replicate, not, false, get_or, refl, ap, slice_get, Some, arith, subst, Contains, Contains-push}
use Rattle.hn_base.proofs.Names.{Contains-get_or, count_by, common_steps, length_push, IfOk-weaker, slice_get_read, slice_get_within}
use Rattle.hn_graph.proofs.Names.{ArePlacesNext, HasMarked, HasFound}
use Rattle.std.proofs.lemmas.List.{nil_from_length}
use Rattle.hn_graph.proofs.LeftToMark.{all_left, none_left}
use Rattle.hn_graph.proofs.Progress.{IsUnderway, begin, visit, finish}
use Rattle.hn_graph.proofs.reachability.reach.Goals as goal

pub loop-place-init : goal.loop-place-init
loop-place-init c =
    let nodes = c.args.nodes.now in
    let m = c.in_ok-mark.ensures in
    let unmarked : c.in_ok-found.found.items ≡ replicate (length nodes) false = search rules in
    let marked : HasMarked (c.in-Some.start ∷ []) (replicate (length nodes) false) [] c.mark.new.found.items c.mark.new.visits.items =
    subst (λ (v : List ℕ). HasMarked (c.in-Some.start ∷ []) (replicate (length nodes) false) v c.mark.new.found.items c.mark.new.visits.items) c.in_ok-visits.ensures.items (rw (← unmarked) m) in
    let left = all_left (length nodes) in
    let many = marked.as_many in
    record {
      underway = begin c.args.own.0 nodes c.in-Some.start c.mark.new.found.items c.mark.new.visits.items c.requires.ascending c.in-Some.ensures.within c.in-Some.ensures.found marked;
      counted = omega (arith, left, many);
    }

pub bounds-nodes-place : goal.bounds-nodes-place
bounds-nodes-place c = c.loop-place.invariant.underway.visits_nodes c.in-Some-pop.place (rw c.in-Some-pop.ensures.items (Contains-push c.pop.new.self.items c.in-Some-pop.place))

pub offset_bounds-nodes-place : goal.offset_bounds-nodes-place
offset_bounds-nodes-place c =
    let within = c.loop-place.invariant.underway.visits_nodes c.in-Some-pop.place (rw c.in-Some-pop.ensures.items (Contains-push c.pop.new.self.items c.in-Some-pop.place)) in
    search rules

pub mark-requires-in-Some-pop : goal.mark-requires-in-Some-pop
mark-requires-in-Some-pop c k d lt =
    let there : Contains c.next_places.new.places.items (get_or c.deref-in-Some-pop.result.now k d) =
    rw (← c.deref-in-Some-pop.ensures.value) (Contains-get_or c.deref-in-Some-pop.result.now k d lt) in
    let next = c.in_ok-next_places.ensures.only (get_or c.deref-in-Some-pop.result.now k d) there in
    let within = slice_get_within c.args.nodes.now (get_or c.deref-in-Some-pop.result.now k d) next.y next.at in
    let same = c.loop-place.invariant.underway.same_length in
    omega arith

pub loop-place-preserved : goal.loop-place-preserved
loop-place-preserved c =
    let nodes = c.args.nodes.now in
    let place = c.in-Some-pop.place in
    let x = c.index-nodes-place.result in
    let popped = c.in-Some-pop.ensures.items in
    let within = c.loop-place.invariant.underway.visits_nodes place (rw popped (Contains-push c.pop.new.self.items place)) in
    let at : slice_get nodes place ≡ Some x = slice_get_read nodes (length nodes) place x refl within c.index-nodes-place.is in
    let u : IsUnderway c.args.own.0 nodes c.loop-place.found.items (c.pop.new.self.items ++ place ∷ []) = rw (← popped) c.loop-place.invariant.underway in
    let m : HasMarked c.next_places.new.places.items c.loop-place.found.items c.pop.new.self.items c.mark-in-Some-pop.new.found.items c.mark-in-Some-pop.new.visits.items =
    rw (← c.deref-in-Some-pop.ensures.value) c.in_ok-mark-2.ensures in
    let next : ArePlacesNext nodes x c.loop-place.found.items c.next_places.new.places.items = rw (← c.deref.ensures.value) c.in_ok-next_places.ensures in
    let longer : length c.loop-place.visits.items ≡ length c.pop.new.self.items + 1 = ap length popped ∙ length_push c.pop.new.self.items place in
    let counted = c.loop-place.invariant.counted in
    let many = m.as_many in
    record {
      underway =
          visit c.args.own.0 nodes x place c.next_places.new.places.items c.loop-place.found.items c.pop.new.self.items
          c.mark-in-Some-pop.new.found.items c.mark-in-Some-pop.new.visits.items u at next m;
      counted = omega (arith, longer, counted, many);
    }

pub next_places-requires-clause-none_left : goal.next_places-requires-clause-none_left
next_places-requires-clause-none_left c closed =
    let popped = c.in-Some-pop.ensures.items in
    let longer : length c.loop-place.visits.items ≡ length c.pop.new.self.items + 1 = ap length popped ∙ length_push c.pop.new.self.items c.in-Some-pop.place in
    let counted = c.loop-place.invariant.counted in
    let none : count_by not c.loop-place.found.items ≡ 0 = grind (arith, common_steps, longer, counted, closed) in
    rw c.deref.ensures.value (none_left c.loop-place.found.items none)

pub returns-clause-exact : goal.returns-clause-exact
returns-clause-exact c =
    let nodes = c.args.nodes.now in
    let done : c.loop-place.visits.items ≡ [] = nil_from_length c.loop-place.visits.items (search rules) in
    let u : IsUnderway c.args.own.0 nodes c.loop-place.found.items [] = rw (← done) c.loop-place.invariant.underway in
    IfOk-weaker c.found_ids.result _ _ (λ ids are y.
    let ends = finish c.args.own.0 nodes c.loop-place.found.items y u in
    let exact : Contains ids y ↔ HasFound nodes c.loop-place.found.items y = rw (← c.deref-2.ensures.value) (are y) in
    (λ h. ends.0 (exact.0 h), λ r. exact.1 (ends.1 r))) c.found_ids.ensures.exact
