-- The names that proofs of this crate cite most, handed on from one place. Declares nothing.
pub use Rattle.hn_base.proofs.Results.{on_err}
pub use Rattle.hn_node.specs.Steps.{AddsEntry, Grows, HandsAll, HandsPart, counted, plain_site}
pub use Rattle.hn_node.specs.Turns.{Arrives, CutSteps, CutTurn, IsLoggedEvent, IsLoggedTurn, PlainSite, Serving, Steps, TakesTurn, AreTurns, handed_in, handed_of, is_tick, plain_of, serving, logged_words}
pub use Rattle.hn_node.specs.declared.logged.Logged.{Logged}
pub use Rattle.hn_node.specs.declared.logged.NodeEvent.{NodeEvent}
pub use Rattle.hn_node.specs.declared.node.Node.{Node}
pub use Rattle.hn_router.specs.Act.{Happened}
pub use Rattle.hn_rules.specs.declared.done.Done.{Done}
pub use Rattle.hn_rules.specs.declared.done.Outgoing.{Outgoing}
pub use Rattle.hn_rules.specs.declared.state.State.{State}
pub use Rattle.hn_wire.specs.declared.datagram.Datagram.{Datagram}
pub use Rattle.std.proofs.Common.{append-nil}
