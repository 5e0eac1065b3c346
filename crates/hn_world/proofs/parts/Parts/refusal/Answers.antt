use Rattle.hn_base.proofs.Names.{◌≡◌, ◌∙◌, ap, sym, subst}
use Rattle.hn_world.proofs.Names.{WEvent, named_member, refusal}
use Rattle.hn_world.specs.declared.event.WEvent.TheVariants as event
use Rattle.hn_world.specs.Refusal.{refusal_at}
use Rattle.hn_world.proofs.parts.Parts.refusal.Goals as goal

pub returns-in-Tick : goal.returns-in-Tick
returns-in-Tick c =
    let w = c.args.self.now in
    let tick : WEvent = event.Tick c.in-Tick.name in
    subst (λ (e : WEvent). c.refusal_of_tick.result ≡ refusal w e) (sym c.in-Tick.is)
    (c.refusal_of_tick.ensures c.in-Tick.name ∙ ap (refusal_at tick w) (c.named_member.ensures ∙ ap (λ (e : WEvent). named_member e w) c.in-Tick.is))
