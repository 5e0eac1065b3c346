use Rattle.hn_base.proofs.Names.{◌∙◌, ◌-◌, take, drop, sym, subst, List, Contains}
use Rattle.hn_assign.proofs.Names.{Advertised}
use Rattle.hn_assign.proofs.TakenInside.{between_part, starting_between}
use Rattle.hn_assign.proofs.index.Index.starting_in.Goals as goal

pub returns-clause-part : goal.returns-clause-part
returns-clause-part c a there =
    let p = c.places_in-start.result in
    between_part c.args.self.now p.0 (p.1 - p.0) a (subst (λ (xs : List Advertised). Contains (take (p.1 - p.0) (drop p.0 xs)) a) (c.deref.ensures.value ∙ c.self.view_is) there)

pub returns-clause-all : goal.returns-clause-all
returns-clause-all c a there inside =
    let p = c.places_in-start.result in
    subst (λ (xs : List Advertised). Contains (take (p.1 - p.0) (drop p.0 xs)) a) (sym (c.deref.ensures.value ∙ c.self.view_is))
    (starting_between c.args.self.now c.args.outer.now p.0 p.1 a c.places_in-start.ensures there inside)
