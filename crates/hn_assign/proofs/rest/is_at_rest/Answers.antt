use Rattle.hn_base.proofs.Names.{◌↔◌, IsTrue, Option, None, Some, false, not, sym, subst}
use Rattle.hn_assign.proofs.Names.{Advertised, Assigned, RestsWith, IsBestFor}
use Rattle.hn_assign.specs.Scene.{plain_scene}
use Rattle.hn_assign.proofs.PairRests.{idle, not_idle, alone, beside}
use Rattle.hn_assign.proofs.rest.is_at_rest.Goals as goal

pub returns-in-None-None : goal.returns-in-None-None
returns-in-None-None c =
    let at = plain_scene c.args.scene.now in
    let none : IsBestFor at None = subst (λ (b : Option Advertised). IsBestFor at b) c.in-None-None.is-0 c.best.ensures in
    subst (λ (o : Option Assigned). IsTrue (not c.has_free.result) ↔ RestsWith at o) (sym c.in-None-None.is-1) (idle at c.has_free.result none c.has_free.ensures)

pub returns-in-None-Some : goal.returns-in-None-Some
returns-in-None-Some c =
    let at = plain_scene c.args.scene.now in
    let none : IsBestFor at None = subst (λ (b : Option Advertised). IsBestFor at b) c.in-None-Some.is-0 c.best.ensures in
    subst (λ (o : Option Assigned). IsTrue c.stays_alone.result ↔ RestsWith at o) (sym c.in-None-Some.is-1) (alone at c.in-None-Some.c c.stays_alone.result none c.stays_alone.ensures)

pub returns-in-Some-None : goal.returns-in-Some-None
returns-in-Some-None c =
    let at = plain_scene c.args.scene.now in
    let is : IsBestFor at (Some c.in-Some-None.field-0-0) = subst (λ (b : Option Advertised). IsBestFor at b) c.in-Some-None.is-0 c.best.ensures in
    subst (λ (o : Option Assigned). IsTrue false ↔ RestsWith at o) (sym c.in-Some-None.is-1) (λ no. absurd cc, λ rest. absurd (not_idle at c.in-Some-None.field-0-0 is rest))

pub returns-in-Some-Some : goal.returns-in-Some-Some
returns-in-Some-Some c =
    let at = plain_scene c.args.scene.now in
    let is : IsBestFor at (Some c.in-Some-Some.best) = subst (λ (b : Option Advertised). IsBestFor at b) c.in-Some-Some.is-0 c.best.ensures in
    subst (λ (o : Option Assigned). IsTrue c.stays_beside.result ↔ RestsWith at o) (sym c.in-Some-Some.is-1)
    (beside at c.in-Some-Some.c c.in-Some-Some.best c.stays_beside.result is c.stays_beside.ensures)
