use Rattle.hn_base.proofs.Names.{◌≡◌, ◌∙◌, ℕ, List, Some, sym, ap, subst}
use Rattle.hn_world.proofs.Names.{Arrive, Origin, IsPlanned, copy_at}
use Rattle.std.specs.Prelude.{option_copied}
use Rattle.hn_world.proofs.DoneAsPlanned.{receiver_within, stays_within, delivered_step}
use Rattle.hn_world.proofs.parts.Parts.deliver.Goals as goal

pub plan-requires-clause-there : goal.plan-requires-clause-there
plan-requires-clause-there g c =
    let mail = c.in-Some.mail.now in
    let at : copy_at c.args.self.now c.args.copy ≡ Some mail = sym c.copy_at.ensures ∙ ap option_copied c.in-Some.is in
    receiver_within c.args.copy c.args.self.now mail c.requires.accepted at

pub finish-requires-clause-there : goal.finish-requires-clause-there
finish-requires-clause-there g c =
    let mail = c.in-Some.mail.now in
    let at : copy_at c.args.self.now c.args.copy ≡ Some mail = sym c.copy_at.ensures ∙ ap option_copied c.in-Some.is in
    receiver_within c.args.copy c.args.self.now mail c.requires.accepted at

pub take-requires : goal.take-requires
take-requires g c =
    let mail = c.in-Some.mail.now in
    let plan = c.in_ok-plan.plan in
    let origin : Origin = record { endpoint = mail.to.endpoint; from = mail.from; multicast = mail.multicast } in
    let is = subst (λ (bytes : List ℕ). IsPlanned mail.to.place (Arrive origin bytes) (g.D.Draw.words c.args.draw.now) (g.D.Draw.words c.plan.new.draw) c.args.self.now plan)
    (c.as_slice.ensures ∙ c.get.ensures) c.in_ok-plan.ensures in
    let at : copy_at c.args.self.now c.args.copy ≡ Some mail = sym c.copy_at.ensures ∙ ap option_copied c.in-Some.is in
    stays_within c.args.copy mail _ _ c.args.self.now c.finish.new.self plan at is c.in_ok-happened.ensures.world

pub returns-clause-ok : goal.returns-clause-ok
returns-clause-ok g c =
    let mail = c.in-Some.mail.now in
    let plan = c.in_ok-plan.plan in
    let origin : Origin = record { endpoint = mail.to.endpoint; from = mail.from; multicast = mail.multicast } in
    let is = subst (λ (bytes : List ℕ). IsPlanned mail.to.place (Arrive origin bytes) (g.D.Draw.words c.args.draw.now) (g.D.Draw.words c.plan.new.draw) c.args.self.now plan)
    (c.as_slice.ensures ∙ c.get.ensures) c.in_ok-plan.ensures in
    let at : copy_at c.args.self.now c.args.copy ≡ Some mail = sym c.copy_at.ensures ∙ ap option_copied c.in-Some.is in
    delivered_step c.args.copy mail _ _ c.args.self.now c.finish.new.self plan at is c.in_ok-happened.ensures.world c.take.new.self c.in_ok-happened.happened.notes
    c.requires.accepted c.in_ok-happened.ensures.notes c.take.ensures
