-- Laws of a node's log.
use Rattle.std.specs.Prelude.{◌≡◌, ℕ, List, [], ◌∷◌, map, Option}
use Rattle.hn_rules.specs.declared.state.State.{State}
use Rattle.hn_wire.specs.declared.datagram.Datagram.{Datagram}
use Rattle.hn_node.specs.declared.logged.Logged.{Logged}
use Rattle.hn_node.specs.declared.logged.NodeEvent.{NodeEvent}
use Rattle.hn_node.specs.Turns.{PlainSite, Serving, IsLoggedEvent, AreTurns, CutTurns, logged_words}

-- a log leads from one router to another
abbrev pub LogLeads : List Logged → State → State → Type 0
LogLeads [] before after = after ≡ before
LogLeads (l ∷ log) before after = (between : State) × IsLoggedEvent l.moment l.event l before between × LogLeads log between after

-- the events of a log, each with its moment
abbrev pub events_of : List Logged → List (ℕ × NodeEvent)
events_of log = map (λ l. (l.moment, l.event)) log

-- The log of turns leads from the router before them to the router after them, also where the wire cut the last turn.
pub record TurnsAreLogged : Type 0 where
  pub turns : (at : PlainSite) (n : ℕ) (log : List Logged) (before after : Serving) (readings rest : Option (List ℕ))
      → AreTurns at n log before after readings rest → LogLeads log before.router after.router
  pub cut : (at : PlainSite) (n : ℕ) (log : List Logged) (handed : List Datagram) (before after : Serving) (readings rest : Option (List ℕ))
      → CutTurns at n log handed before after readings rest → LogLeads log before.router after.router

-- The router after a log, and the log, are functions of the router before it, the log's events with their moments, and the
-- random words.
abbrev pub LogLeadsOnce : Type 0
LogLeadsOnce =
    (log other : List Logged) (first a b : State) → events_of log ≡ events_of other → logged_words log ≡ logged_words other
    → LogLeads log first a → LogLeads other first b → (a ≡ b) × (log ≡ other)
