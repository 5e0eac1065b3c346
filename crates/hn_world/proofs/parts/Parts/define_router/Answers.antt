use Rattle.hn_base.proofs.Names.{◌∙◌, List, [], ◌∷◌, ◌++◌, ap}
use Rattle.hn_world.proofs.Names.{Publication, Member}
use Rattle.hn_world.proofs.DoneAsPlanned.{begun_step}
use Rattle.hn_world.proofs.parts.Parts.define_router.Goals as goal

pub returns-clause-ok : goal.returns-clause-ok
returns-clause-ok c =
    let member = c.in_ok-member.member in
    let publication = c.in_ok-member.publication in
    let traced = c.enter.result in
    begun_step c.args.name c.args.id _ c.args.self.now _ _ member.router member publication _ _ _ traced c.self.view_is
    c.requires.accepted c.requires.in_range c.table_limit-limit.ensures.limit c.get.ensures.moment c.in_ok-member.ensures.router
    c.in_ok-member.ensures.member c.in_ok-member.ensures.publication c.enter.ensures.entry
    (c.push_reserved.ensures.items ∙ ap (λ (ms : List Member). ms ++ member ∷ []) c.make_room.ensures.members)
    (c.push_reserved-2.ensures.items ∙ ap (λ (ps : List Publication). ps ++ publication ∷ []) c.make_room.ensures.publications)
    c.enter.ensures.trace
