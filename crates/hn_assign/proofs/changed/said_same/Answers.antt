use Rattle.hn_base.proofs.Names.{sym, subst, Contains, Contains-get_or}
use Rattle.hn_data.specs.declared.view.Entry.{Entry}
use Rattle.hn_assign.proofs.changed.said_same.Goals as goal

pub returns-in-Some : goal.returns-in-Some
returns-in-Some c =
    let was = c.index-before-place.result in
    λ yes. (
      was,
      subst (λ (e : Entry). Contains c.args.before.now e) (sym c.index-before-place.is) (Contains-get_or c.args.before.now c.in-Some.place was c.in-Some.ensures.within),
      c.advertise_same.ensures yes,
    )
