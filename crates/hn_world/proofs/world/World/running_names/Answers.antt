use Rattle.hn_base.proofs.Names.{◌≡◌, ◌∙◌, Vec, Global, ap}
use Rattle.hn_world.proofs.Names.{Name, Member}
use Rattle.hn_world.specs.SeenWorld.{SeenWorld}
use Rattle.hn_world.proofs.ElementAtPlace.{with_one, without_one}
use Rattle.hn_world.proofs.world.World.running_names.Goals.{then-member+in_ok-push, else-member}
use Rattle.hn_world.proofs.world.World.running_names.Goals as goal

pub loop-member-preserved : goal.loop-member-preserved
loop-member-preserved c =
    let xs = c.as_slice-member-items.result.now in
    let ys = c.args.self.now.parts.members in
    let same : xs ≡ ys = c.as_slice-member-items.ensures ∙ ap (λ (w : SeenWorld). w.parts.members) c.self.view_is in
    elim c.if-member.branch [
      | then-member+in_ok-push w ↦
          with_one (λ (m : Member). m.name) (λ (m : Member). m.running) xs ys c.loop-member.member-index c.member-item.result c.loop-member.names.items c.if-member.names.items
          same c.loop-member-test.true c.member-item.is w.if-member.true c.loop-member.invariant (ap (λ (v : Vec Name Global). v.items) w.names-is ∙ w.in_ok-push.ensures.items)
      | else-member w ↦
          without_one (λ (m : Member). m.name) (λ (m : Member). m.running) xs ys c.loop-member.member-index c.member-item.result c.loop-member.names.items c.if-member.names.items
          same c.loop-member-test.true c.member-item.is w.if-member.false c.loop-member.invariant (ap (λ (v : Vec Name Global). v.items) w.names-is)
    ]
