use Rattle.hn_base.proofs.Names.{◌≡◌, ◌≤◌, ℕ, Some, slice_get, slice_set, sym, subst, name_text}
use Rattle.hn_world.proofs.Names.{nothing, at_moment, Tick, Happened, Member}
use Rattle.hn_world.proofs.DoneAsPlanned.{there, router_within, router_past, passed_step}
use Rattle.hn_world.proofs.parts.Parts.pass_tick.Goals as goal

pub pass-requires-clause-there : goal.pass-requires-clause-there
pass-requires-clause-there g c = router_within (name_text c.args.name) c.args.self.now c.args.place c.requires.placed

pub pass-requires-clause-past : goal.pass-requires-clause-past
pass-requires-clause-past g c =
    subst (λ (now : ℕ). (m : Member) → slice_get c.args.self.now.members c.args.place ≡ Some m → m.router.moment ≤ now) (sym c.get.ensures.moment)
    (router_past c.args.self.now c.args.place c.requires.sound)

pub returns-clause-ok : goal.returns-clause-ok
returns-clause-ok g c =
    let w = c.args.self.now in
    let place = c.args.place in
    let here = there w.members place (router_within (name_text c.args.name) w place c.requires.placed) in
    let m : Member = here.0 in
    let moved : c.pass.new.self ≡ slice_set w.members place (record m { router = at_moment w.moment m.router }) =
    subst (λ (now : ℕ). c.pass.new.self ≡ slice_set w.members place (record m { router = at_moment now m.router })) c.get.ensures.moment (c.pass.ensures.members m here.1) in
    let happened : Happened w.moment Tick m.router (at_moment w.moment m.router) nothing =
    subst (λ (now : ℕ). Happened now Tick m.router (at_moment now m.router) nothing) c.get.ensures.moment (c.pass.ensures.happened m here.1) in
    passed_step c.args.name place w m c.pass.new.self c.enter.new.trace c.enter.result c.new.result
    (g.D.Draw.words c.args.draw.now) c.requires.accepted c.requires.placed here.1 happened moved c.enter.ensures.entry c.enter.ensures.trace c.new.ensures
