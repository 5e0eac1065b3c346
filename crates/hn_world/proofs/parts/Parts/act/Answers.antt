use Rattle.hn_base.proofs.Names.{◌≡◌, ◌∙◌, Some, ap, sym, option_map}
use Rattle.hn_world.proofs.Names.{plain_event, with_beside, routed, named_by, ok_both}
use Rattle.hn_world.proofs.DoneAsPlanned.{named_within, acted_step}
use Rattle.hn_world.proofs.parts.Parts.act.Goals as goal

pub beside-requires : goal.beside-requires
beside-requires g c = record { there = named_within (named_by c.args.event) c.args.self.now c.args.place c.requires.placed }

pub plan-requires-clause-there : goal.plan-requires-clause-there
plan-requires-clause-there g c = named_within (named_by c.args.event) c.args.self.now c.args.place c.requires.placed

pub finish-requires-clause-there : goal.finish-requires-clause-there
finish-requires-clause-there g c = named_within (named_by c.args.event) c.args.self.now c.args.place c.requires.placed

pub returns-clause-ok : goal.returns-clause-ok
returns-clause-ok g c =
    let plan = c.in_ok-plan.plan in
    let is = c.in_ok-plan.ensures in
    let route : routed c.args.event ≡ Some (c.in-Some.field-0-0, plain_event c.in-Some.own) = sym c.routed.ensures ∙ ap (option_map (λ own. (own.0, plain_event own.1))) c.in-Some.is in
    ok_both c.finish.result _ _ _
    (λ happened world noted.
    acted_step (with_beside c.in_ok-beside.beside) c.args.place
    (plain_event c.in-Some.own) _ _ c.args.self.now plan is c.args.event c.in-Some.field-0-0 c.finish.new.self happened.notes c.requires.accepted
    c.requires.in_range c.event_in_range.ensures route c.requires.placed
    (c.in_ok-beside.ensures is.member plan.state is.is_member) world noted)
    c.finish.ensures.world c.finish.ensures.notes
