use Rattle.hn_base.proofs.Names.{◌≡◌, ◌∙◌, ◌-◌, [], length, take, drop, sym, ap, subst, arith, eqb-true, List, Contains, PlainPrefix}
use Rattle.hn_assign.proofs.Names.{Contains-map, short_of}
use Rattle.hn_assign.proofs.FreePrefixes.{prefixes}
use Rattle.hn_assign.proofs.TakenInside.{between_part, empty_is, prefix_between, none_short}
use Rattle.hn_assign.proofs.index.Index.taken_in.Goals as goal

pub returns-then-not-is_empty-clause-part : goal.returns-then-not-is_empty-clause-part
returns-then-not-is_empty-clause-part c t there =
    let is : c.deref.result.now ≡ prefixes c.args.self.now = c.deref.ensures.value ∙ c.self.invariant.prefixes ∙ ap prefixes c.self.view_is in
    subst (λ (ts : List PlainPrefix). Contains ts t) is there

pub returns-then-not-is_empty-clause-all : goal.returns-then-not-is_empty-clause-all
returns-then-not-is_empty-clause-all c a there overlaps =
    let is : c.deref.result.now ≡ prefixes c.args.self.now = c.deref.ensures.value ∙ c.self.invariant.prefixes ∙ ap prefixes c.self.view_is in
    subst (λ (ts : List PlainPrefix). Contains ts a.prefix) (sym is) (Contains-map (λ x. x.prefix) c.args.self.now a there)

pub returns-clause-part : goal.returns-clause-part
returns-clause-part c t there =
    let p = c.places_in-start.result in
    let is : c.deref-2.result.now ≡ prefixes c.args.self.now = c.deref-2.ensures.value ∙ c.self.invariant.prefixes ∙ ap prefixes c.self.view_is in
    between_part (prefixes c.args.self.now) p.0 (p.1 - p.0) t (subst (λ (ts : List PlainPrefix). Contains (take (p.1 - p.0) (drop p.0 ts)) t) is there)

pub returns-clause-all : goal.returns-clause-all
returns-clause-all c a there overlaps =
    let p = c.places_in-start.result in
    let adv = c.args.self.now in
    let is : c.deref-2.result.now ≡ prefixes adv = c.deref-2.ensures.value ∙ c.self.invariant.prefixes ∙ ap prefixes c.self.view_is in
    let short : c.self.inside.short.items ≡ short_of adv = c.self.invariant.short_ones ∙ ap short_of c.self.view_is in
    let empty = eqb-true _ _ (sym c.is_empty.ensures ∙ c.if-not-is_empty.false) in
    let size : length c.self.inside.short.items ≡ 0 = omega arith in
    let none : c.self.inside.short.items ≡ [] = empty_is c.self.inside.short.items size in
    prefix_between adv c.deref-2.result.now c.args.outer.now p.0 p.1 a is c.places_in-start.ensures there
    (none_short adv c.self.inside.short.items a c.args.outer.now short none there c.requires overlaps)
