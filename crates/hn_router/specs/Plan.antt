-- What an event would do.
use Rattle.hn_rules.specs.declared.state.State.{State}
use Rattle.hn_rules.specs.declared.done.Done.{Done}

-- the next state of a router, and what came of the event
pub record PlainPlan : Type 0 where
  pub state : State
  pub done : Done

-- the state of a router after what was planned is done
abbrev pub changed : PlainPlan → State → State
changed plan s = plan.state
