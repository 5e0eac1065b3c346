use Rattle.hn_base.proofs.Names.{◌∙◌, ap, refl, sym, arith, option_map}
use Rattle.hn_rules.proofs.Names.{given_next, passed_next, leaf_of, entry_of}
use Rattle.hn_rules.proofs.NodeLists.{mapped_whole}
use Rattle.hn_rules.proofs.state.State.leaves.Goals.{in-Some+in_ok-push, in_default}
use Rattle.hn_rules.proofs.state.State.leaves.Goals as goal

pub loop-id-preserved : goal.loop-id-preserved
loop-id-preserved c = record {
  all = c.loop-id.invariant.all;
  so_far =
      elim c.match-leaf.branch [
        | in-Some+in_ok-push w ↦ given_next (λ id. option_map leaf_of (entry_of c.args.self.now id)) c.as_slice-id-items.result.now c.loop-id.id-index _
            (record { 0 = 0 }) w.in-Some.leaf c.loop-id.leaves.items c.match-leaf.leaves.items c.loop-id-test.true refl
            (sym c.in_ok-leaf.ensures ∙ w.in-Some.is) c.loop-id.invariant.so_far (ap (λ p. p.items) w.leaves-is ∙ w.in_ok-push.ensures.items)
        | in_default w ↦ passed_next (λ id. option_map leaf_of (entry_of c.args.self.now id)) c.as_slice-id-items.result.now c.loop-id.id-index _
            (record { 0 = 0 }) c.loop-id.leaves.items c.match-leaf.leaves.items c.loop-id-test.true refl
            (sym c.in_ok-leaf.ensures ∙ w.in_default.is) c.loop-id.invariant.so_far (ap (λ p. p.items) w.leaves-is)
      ];
}

pub returns : goal.returns
returns c = mapped_whole leaf_of (entry_of c.args.self.now) c.as_slice-id-items.result.now c.args.self.now.reach c.loop-id.id-index c.loop-id.leaves.items
    (omega arith) c.loop-id.invariant.all c.loop-id.invariant.so_far
