-- What a router chooses for itself: its addresses, and a delegated prefix of its own making.
use Rattle.std.specs.Prelude.{◌≡◌, ℕ, ◌+◌, List, length, Option, None, Some}
use Rattle.hn_addr.specs.declared.choice.Choice.{Choice}
use Rattle.hn_addr.specs.declared.choice.Choice.TheVariants as choice
use Rattle.hn_base.specs.Name.{name_text}
use Rattle.hn_base.specs.Words.{Begins}
use Rattle.hn_base.specs.declared.name.Name.{Name}
use Rattle.hn_rules.specs.declared.state.State.{State}
use Rattle.hn_ula.specs.declared.decision.Ula.{Ula}
use Rattle.hn_ula.specs.declared.decision.Ula.TheVariants as ula
use Rattle.hn_world.specs.declared.event.WEvent.{WEvent}
use Rattle.hn_world.specs.declared.event.WEvent.TheVariants as event
use Rattle.hn_world.specs.declared.member.Member.{Member}
use Rattle.hn_world.specs.Names.{member_named}
use Rattle.hn_world.specs.Asked.{unless_runs}
use Rattle.hn_play.specs.declared.end.Stop.{Stop}
use Rattle.hn_play.specs.Delivery.{EventEnds}
use Rattle.hn_play.specs.Process.{Process, Nothing, Unless, ThenProcess}
use Rattle.hn_play.specs.Stage.{Stage}
use Rattle.hn_play.specs.Tells.{TellsLines}

-- words are taken, the first to come
pub record TakesWords (words : List ℕ) (before after : Stage) : Type 0 where
  pub begins : Begins words before.words
  pub gives : after ≡ record before { words = λ place. before.words (length words + place) }

-- the event by which a choice is made true, if it changes anything
abbrev pub chosen_event : Name → Choice → Option WEvent
chosen_event name choice.Keep = None
chosen_event name (choice.Set list) = Some (event.Addresses name list)

abbrev pub decided_event : Name → Ula → Option WEvent
decided_event name ula.Keep = None
decided_event name (ula.Announce prefix) = Some (event.External name prefix 4294967295 4294967295)
decided_event name (ula.Withdraw prefix) = Some (event.Withdraw name prefix)

-- an event happens, if there is one
abbrev pub MayHappen : Option WEvent → Process
MayHappen None stop before after = Nothing stop before after
MayHappen (Some event) stop before after = EventEnds event stop before after

-- the router of a name chooses, by the words to come; then what it chose happens, and lines on it come up
pub record MakesChoice {A : Type 0} (name : Name) (IsMadeBy : State → A → List ℕ → Type 0) (event_for : A → Option WEvent)
    (told_of : A → List (List ℕ)) (stop : Option Stop) (before after : Stage) : Type 0 where
  pub member : Member
  pub is_member : member_named (name_text name) before.world ≡ Some member
  pub made : A
  pub words : List ℕ
  pub is_made : IsMadeBy member.router made words
  pub between : Stage
  pub takes : TakesWords words before between
  pub ends : ThenProcess (MayHappen (event_for made)) (TellsLines (told_of made)) stop between after

-- a running router chooses
abbrev pub Chooses : {A : Type 0} → Name → (State → A → List ℕ → Type 0) → (A → Option WEvent) → (A → List (List ℕ)) → Process
Chooses name IsMadeBy event_for told_of stop before after =
    ThenProcess (Unless (unless_runs name before.world)) (MakesChoice name IsMadeBy event_for told_of) stop before after
