use Rattle.hn_base.proofs.Names.{◌≡◌, ◌≢◌, ◌<◌, ◌≤◌, ◌∙◌, ℕ, List, Some, None, length, set, ap, sym, subst, arith, insert}
use Rattle.hn_store.proofs.Names.{HeldNode, Nodes, IsTable, held, entry, put, IsPlaceOf, IsGapFor, plain_state, stored_from, AreAgesUndueBefore}
use Rattle.hn_store.proofs.NodePlaces.{held-none}
use Rattle.hn_store.proofs.AgesOfNodes.{ages_set, ages_insert}
use Rattle.hn_store.proofs.TableStays.{IsTable-insert}
use Rattle.hn_store.proofs.Changing.{IsTable-there, intact_kept, after_replaced, after_inserted}
use Rattle.hn_store.proofs.table.Table.store.Goals as goal

pub invariant_of-self : goal.invariant_of-self
invariant_of-self c =
    let s = plain_state c.args.state.now in
    let xs = c.self.inside.nodes.items in
    let x = c.index_mut-node.result.now in
    let place = subst (λ (es : List HeldNode). IsPlaceOf es s.node c.in-Ok.place) c.deref.ensures.value c.in-Ok.ensures.found in
    let one = intact_kept s c.args.now (Some x.stored) c.args.body c.requires.same c.requires.short c.requires.listed c.requires.hashed in
    let P = λ (body : List ℕ). IsTable (record {
      limit = c.self.inside.limit;
      entries = set xs c.in-Ok.place (record { id = x.id; stored = record (stored_from s c.args.now (Some x.stored)) { body = body } });
    }) in
    let table = subst P (sym c.requires.same)
    (IsTable-there c.self.inside.limit xs s.node c.in-Ok.place x (stored_from s c.args.now (Some x.stored)) c.self.invariant.0 place c.index_mut-node.ensures.value one) in
    let sooner = c.min-self-inside.result in
    let until = c.age_undue_until.result in
    let before : sooner ≤ c.self.inside.young = omega (arith, c.min-self-inside.ensures) in
    let early : sooner ≤ until = omega (arith, c.min-self-inside.ensures) in
    (table, ages_set c.self.inside.young sooner until xs c.in-Ok.place _ before early c.self.invariant.1 c.age_undue_until.ensures)

pub returns-in-Ok-clause-ok : goal.returns-in-Ok-clause-ok
returns-in-Ok-clause-ok c =
    let s = plain_state c.args.state.now in
    let xs = c.self.inside.nodes.items in
    let x = c.index_mut-node.result.now in
    let place = subst (λ (es : List HeldNode). IsPlaceOf es s.node c.in-Ok.place) c.deref.ensures.value c.in-Ok.ensures.found in
    let with_entries = λ (es : List HeldNode). let n : Nodes = record { limit = c.self.inside.limit; entries = es } in n in
    let write = λ (body : List ℕ). set xs c.in-Ok.place (record { id = x.id; stored = record (stored_from s c.args.now (Some x.stored)) { body = body } }) in
    ap (λ body. with_entries (write body)) c.requires.same
    ∙ ap with_entries (after_replaced xs c.in-Ok.place x s c.args.now place c.index_mut-node.ensures.value)
    ∙ ap (λ (n : Nodes). let m : Nodes = record { limit = n.limit; entries = put s.node (stored_from s c.args.now (held n.entries s.node)) n.entries } in m) c.self.view_is

pub invariant_of-self-in-Err : goal.invariant_of-self-in-Err
invariant_of-self-in-Err c =
    let s = plain_state c.args.state.now in
    let xs = c.self.inside.nodes.items in
    let gap = subst (λ (es : List HeldNode). IsGapFor es s.node c.in-Err.place) c.deref.ensures.value c.in-Err.ensures.absent in
    let one = intact_kept s c.args.now None c.args.body c.requires.same c.requires.short c.requires.listed c.requires.hashed in
    let room : length xs ≢ c.self.inside.limit =
    subst (λ (n : Nodes). held n.entries s.node ≡ None → length n.entries ≢ n.limit) (sym c.self.view_is) c.requires.room (held-none xs s.node c.in-Err.place gap) in
    let within = c.self.invariant.0.within in
    let less : length xs < c.self.inside.limit = omega arith in
    let with_body = ap (λ (body : List ℕ). insert xs c.in-Err.place (entry s.node (record (stored_from s c.args.now None) { body = body }))) c.requires.same in
    let P = λ (es : List HeldNode). IsTable (record { limit = c.self.inside.limit; entries = es }) in
    let table = subst P (sym (c.in_ok-insert-in-Err.ensures.items ∙ with_body))
    (IsTable-insert c.self.inside.limit s.node c.in-Err.place (stored_from s c.args.now None) xs c.self.invariant.0 gap less one) in
    let sooner = c.min-self-inside.result in
    let until = c.age_undue_until.result in
    let before : sooner ≤ c.self.inside.young = omega (arith, c.min-self-inside.ensures) in
    let early : sooner ≤ until = omega (arith, c.min-self-inside.ensures) in
    let young = ages_insert c.self.inside.young sooner until s.node xs c.in-Err.place (stored_from s c.args.now None) gap before early c.self.invariant.1 c.age_undue_until.ensures in
    (table, subst (AreAgesUndueBefore sooner) (sym (c.in_ok-insert-in-Err.ensures.items ∙ with_body)) young)

pub returns-in_ok-insert-in-Err-clause-ok : goal.returns-in_ok-insert-in-Err-clause-ok
returns-in_ok-insert-in-Err-clause-ok c =
    let s = plain_state c.args.state.now in
    let xs = c.self.inside.nodes.items in
    let gap = subst (λ (es : List HeldNode). IsGapFor es s.node c.in-Err.place) c.deref.ensures.value c.in-Err.ensures.absent in
    let with_entries = λ (es : List HeldNode). let n : Nodes = record { limit = c.self.inside.limit; entries = es } in n in
    let with_body = ap (λ (body : List ℕ). insert xs c.in-Err.place (entry s.node (record (stored_from s c.args.now None) { body = body }))) c.requires.same in
    ap with_entries (c.in_ok-insert-in-Err.ensures.items ∙ with_body ∙ after_inserted xs c.in-Err.place s c.args.now gap)
    ∙ ap (λ (n : Nodes). let m : Nodes = record { limit = n.limit; entries = put s.node (stored_from s c.args.now (held n.entries s.node)) n.entries } in m) c.self.view_is
