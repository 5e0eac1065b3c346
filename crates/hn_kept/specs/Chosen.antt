-- What a router chooses for itself: whether it announces a ULA prefix of its own making, and its addresses.
use Rattle.std.specs.Prelude.{ℕ, List, Some}
use Rattle.rand_chacha.specs.ChaCha.{ChaCha}
use Rattle.hn_base.specs.Words.{Took}
use Rattle.hn_router.specs.Act.{PlainEvent}
use Rattle.hn_router.specs.Act as event
use Rattle.hn_rules.specs.declared.state.State.{State}
use Rattle.hn_ula.specs.Ula.{Decides}
use Rattle.hn_ula.specs.declared.decision.Ula.{Ula}
use Rattle.hn_ula.specs.declared.decision.Ula.TheVariants as ula
use Rattle.hn_addr.specs.Addresses.{IsChoice}
use Rattle.hn_addr.specs.declared.choice.Choice.{Choice}
use Rattle.hn_addr.specs.declared.choice.Choice.TheVariants as choice
use Rattle.hn_kept.specs.Words.{chacha_word}
use Rattle.hn_kept.specs.Kept.{Kept, Acts}

-- the event by which a decision is made true: a prefix is announced for ever, and time passes where there is nothing to do
abbrev pub ula_event : Ula → PlainEvent
ula_event ula.Keep = event.Tick
ula_event (ula.Announce prefix) = event.External prefix 4294967295 4294967295
ula_event (ula.Withdraw prefix) = event.Withdraw prefix

-- the event by which a choice of addresses is made true; time passes where they stay
abbrev pub address_event : Choice → PlainEvent
address_event choice.Keep = event.Tick
address_event (choice.Set list) = event.Addresses list

-- A router chooses something as of its last event, over the generator's next words. Then an event happens by which this is made
-- true, and takes the words after them.
pub record ChoosesBeside {A : Type 0} (IsChosen : State → A → List ℕ → Type 0) (event_of : A → PlainEvent) (now : ℕ) (before after : Kept) : Type 0 where
  pub chosen : A
  pub words : List ℕ
  pub next : ChaCha
  pub is_chosen : IsChosen before.router chosen words
  pub took : Took (Some (chacha_word before.words)) words (Some (chacha_word next))
  pub acts : Acts now (event_of chosen) (record before { words = next }) after

-- it decides on a ULA prefix of its own making (RFC 7788, section 6.5), and chooses its addresses (section 6.4)
abbrev pub MakesUla : ℕ → Kept → Kept → Type 0
MakesUla = ChoosesBeside Decides ula_event

abbrev pub ChoosesAddresses : ℕ → Kept → Kept → Type 0
ChoosesAddresses = ChoosesBeside IsChoice address_event
