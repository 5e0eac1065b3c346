use Rattle.hn_base.proofs.Names.{◌∙◌, ap, refl, sym}
use Rattle.hn_rules.proofs.Names.{given_next, passed_next, entry_of}
use Rattle.hn_rules.proofs.state.State.seen.Goals.{in-Some+in_ok-push, in_default}
use Rattle.hn_rules.proofs.state.State.seen.Goals as goal

pub loop-id-preserved : goal.loop-id-preserved
loop-id-preserved c = record {
  all = c.loop-id.invariant.all;
  so_far =
      elim c.match-entry.branch [
        | in-Some+in_ok-push w ↦ given_next (entry_of c.args.self.now) c.as_slice-id-items.result.now c.loop-id.id-index _
            (record { 0 = 0 }) w.in-Some.entry c.loop-id.nodes.items c.match-entry.nodes.items c.loop-id-test.true refl
            (sym c.in_ok-entry.ensures ∙ w.in-Some.is) c.loop-id.invariant.so_far (ap (λ p. p.items) w.nodes-is ∙ w.in_ok-push.ensures.items)
        | in_default w ↦ passed_next (entry_of c.args.self.now) c.as_slice-id-items.result.now c.loop-id.id-index _
            (record { 0 = 0 }) c.loop-id.nodes.items c.match-entry.nodes.items c.loop-id-test.true refl
            (sym c.in_ok-entry.ensures ∙ w.in_default.is) c.loop-id.invariant.so_far (ap (λ p. p.items) w.nodes-is)
      ];
}
