-- A Node State (RFC 7787, sections 4.4 and 7.2.3).
use Rattle.std.specs.Prelude.{◌≡◌, Bool, true, false, []}
use Rattle.hn_typed.specs.Item.{RequestNode}
use Rattle.hn_store.specs.Nodes.{Nodes}
use Rattle.hn_store.specs.Acceptance.{PlainState, Accepts}
use Rattle.hn_store.specs.declared.state.Took.{Took}
use Rattle.hn_store.specs.declared.state.Took.TheVariants as took
use Rattle.hn_rules.specs.declared.running.Running.{Running}
use Rattle.hn_rules.specs.declared.done.Note.TheVariants as note
use Rattle.hn_rules.specs.declared.answers.Subject.TheVariants.{NodeRequest}
use Rattle.hn_rules.specs.Nodes.{own_leaf}
use Rattle.hn_rules.specs.Rules.{Rule, noted}
use Rattle.hn_rules.specs.Answers.{with_answer}
use Rattle.hn_rules.specs.Claim.{IsClaim}

-- what the table answers is noted
abbrev pub took_noted : PlainState → Took → Running → Running
took_noted carried how r = noted (note.Took (record { 0 = carried.node }) how) r

-- what comes of the answer: a claim on the own identifier is one, node data that is not held is asked for
abbrev pub IsTaken : PlainState → Took → Rule
IsTaken carried took.Own before after = IsClaim carried.number (noted (note.Own carried.number) before) after
IsTaken carried took.Ask before after = after ≡ with_answer (NodeRequest (record { 0 = carried.node })) (RequestNode carried.node []) (took_noted carried took.Ask before)
IsTaken carried how before after = after ≡ took_noted carried how before

-- the answers after which a refresh is due: what is held has changed, or the own identifier is claimed
abbrev pub touches : Took → Bool
touches took.Kept = true
touches took.Renumbered = true
touches took.Own = true
touches _ = false

-- the table takes it, with this answer
pub record TakesState (carried : PlainState) (how : Took) (before after : Running) : Type 0 where
  pub table : Nodes
  pub accepts : Accepts before.state.table (own_leaf before.state) carried before.state.moment table how
  pub gives : after ≡ record before { state = record before.state { table = table } }

-- the rule
pub record IsNodeState (carried : PlainState) (before after : Running) : Type 0 where
  pub table : Nodes
  pub how : Took
  pub accepts : Accepts before.state.table (own_leaf before.state) carried before.state.moment table how
  pub taken : IsTaken carried how (record before { state = record before.state { table = table } }) after
