use Rattle.hn_base.proofs.Names.{◌≡◌, [], take, Each}
use Rattle.hn_rules.proofs.Names.{NetworkState, with_answer, with_state}
use Rattle.hn_rules.specs.declared.answers.Subject.TheVariants as subject
use Rattle.hn_rules.proofs.running.Running.request_network.Given as goal

abbrev pub invariant-loop-id : goal.invariant-loop-id
invariant-loop-id l = record {
  all : l.id-items ≡ l.fn.self.state.reach;
  so_far : Each (λ id b a. a ≡ with_state id b) (take l.id-index l.id-items) (with_answer subject.NetworkState (NetworkState l.fn.self.state.net []) l.fn.self) l.self;
}
