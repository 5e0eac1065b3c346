use Rattle.hn_base.proofs.Names.{◌≡◌, ◌≢◌, ◌≤◌, ◌∙◌, List, set, arith, ap, sym, subst, rules}
use Rattle.hn_store.proofs.Names.{Ask, Renumbered, Stored, HeldNode, Nodes, IsTable, IsPlaceOf, plain_state, held_part, stored_renumbered, entries_after, IsOfNumber, AreAgesUndueBefore}
use Rattle.hn_store.proofs.AgesOfNodes.{ages_set}
use Rattle.hn_store.proofs.Changing.{ask_unknown, ask_other, renumber_same, IsTable-there, intact_there, intact_renumbered, after_renumbered}
use Rattle.hn_store.proofs.table.Table.renumber.Goals as goal

pub returns-in_default-clause-took : goal.returns-in_default-clause-took
returns-in_default-clause-took c =
    let entries = ap (λ (n : Nodes). n.entries) c.self.view_is in
    let s = plain_state c.args.state.now in
    subst (λ (es : List HeldNode). IsOfNumber (held_part es s.node) s Ask) (c.deref.ensures.value ∙ entries) (ask_unknown c.deref.result.now s.node c.in_default.field-0 s c.in_default.ensures.absent)

pub returns-then-not-same_hash-clause-took : goal.returns-then-not-same_hash-clause-took
returns-then-not-same_hash-clause-took c =
    let entries = ap (λ (n : Nodes). n.entries) c.self.view_is in
    let s = plain_state c.args.state.now in
    let place = subst (λ (es : List HeldNode). IsPlaceOf es s.node c.in-Ok.place) c.deref.ensures.value c.in-Ok.ensures.found in
    let other : c.index_mut-node.result.now.stored.hash ≢ s.hash = λ same. absurd (let says = c.same_hash.ensures.same.1 same in let not = c.if-not-same_hash.true in search rules) in
    subst (λ (es : List HeldNode). IsOfNumber (held_part es s.node) s Ask) entries
    (ask_other c.self.inside.nodes.items s.node c.in-Ok.place c.index_mut-node.result.now s place c.index_mut-node.ensures.value other)

pub invariant_of-self-2 : goal.invariant_of-self-2
invariant_of-self-2 c =
    let s = plain_state c.args.state.now in
    let place = subst (λ (es : List HeldNode). IsPlaceOf es s.node c.in-Ok.place) c.deref.ensures.value c.in-Ok.ensures.found in
    let x = c.index_mut-node.result.now in
    let one = intact_there c.self.inside.limit c.self.inside.nodes.items s.node c.in-Ok.place x c.self.invariant.0 place c.index_mut-node.ensures.value in
    let P = λ (stored : Stored). IsTable (record { limit = c.self.inside.limit; entries = set c.self.inside.nodes.items c.in-Ok.place (record { id = x.id; stored = stored }) }) in
    let sooner = c.min-self-inside.result in
    let until = c.age_undue_until.result in
    let before : sooner ≤ c.self.inside.young = omega (arith, c.min-self-inside.ensures) in
    let early : sooner ≤ until = omega (arith, c.min-self-inside.ensures) in
    let Q = λ (stored : Stored). AreAgesUndueBefore sooner (set c.self.inside.nodes.items c.in-Ok.place (record { id = x.id; stored = stored })) in
    let young = subst Q (sym c.renumber.ensures)
    (ages_set c.self.inside.young sooner until c.self.inside.nodes.items c.in-Ok.place
    (record { id = x.id; stored = stored_renumbered s c.args.now x.stored }) before early c.self.invariant.1 c.age_undue_until.ensures) in
    let table = subst P (sym c.renumber.ensures)
    (IsTable-there c.self.inside.limit c.self.inside.nodes.items s.node c.in-Ok.place x (stored_renumbered s c.args.now x.stored) c.self.invariant.0 place c.index_mut-node.ensures.value
    (intact_renumbered s c.args.now x.stored one)) in
    (table, young)

pub returns-clause-took : goal.returns-clause-took
returns-clause-took c =
    let entries = ap (λ (n : Nodes). n.entries) c.self.view_is in
    let s = plain_state c.args.state.now in
    let place = subst (λ (es : List HeldNode). IsPlaceOf es s.node c.in-Ok.place) c.deref.ensures.value c.in-Ok.ensures.found in
    let same : c.index_mut-node.result.now.stored.hash ≡ s.hash = search rules in
    subst (λ (es : List HeldNode). IsOfNumber (held_part es s.node) s Renumbered) entries
    (renumber_same c.self.inside.nodes.items s.node c.in-Ok.place c.index_mut-node.result.now s place c.index_mut-node.ensures.value same)

pub returns-clause-after : goal.returns-clause-after
returns-clause-after c =
    let s = plain_state c.args.state.now in
    let xs = c.self.inside.nodes.items in
    let x = c.index_mut-node.result.now in
    let place = subst (λ (es : List HeldNode). IsPlaceOf es s.node c.in-Ok.place) c.deref.ensures.value c.in-Ok.ensures.found in
    let write = λ (stored : Stored). let n : Nodes = record { limit = c.self.inside.limit; entries = set xs c.in-Ok.place (record { id = x.id; stored = stored }) } in n in
    let with_entries = λ (es : List HeldNode). let n : Nodes = record { limit = c.self.inside.limit; entries = es } in n in
    ap write c.renumber.ensures ∙ ap with_entries (after_renumbered xs c.in-Ok.place x s c.args.now place c.index_mut-node.ensures.value)
    ∙ ap (λ (n : Nodes). let m : Nodes = record { limit = n.limit; entries = entries_after n.entries s c.args.now Renumbered } in m) c.self.view_is
