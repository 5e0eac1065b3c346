use Rattle.hn_base.proofs.Names.{◌≡◌, refl}
use Rattle.hn_rules.proofs.Names.{with_state, each_next}
use Rattle.hn_rules.proofs.running.Running.request_network.Goals as goal

pub loop-id-preserved : goal.loop-id-preserved
loop-id-preserved c = record {
  all = c.loop-id.invariant.all;
  so_far = each_next (λ id b a. a ≡ with_state id b) c.as_slice-id-items.result.now c.loop-id.id-index _
      (record { 0 = 0 }) _ c.loop-id.self c.answer_state.new.self c.loop-id-test.true refl c.loop-id.invariant.so_far c.in_ok-answer_state.ensures;
}
