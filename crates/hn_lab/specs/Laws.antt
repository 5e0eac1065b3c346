-- Laws of plays.
use Rattle.std.specs.Prelude.{◌≡◌, ◌⊎◌, ⊤, ℕ, List, ◌++◌, Option, Some, length}
use Rattle.hn_addr.specs.Laws.{ChoiceIsUnique}
use Rattle.hn_advert.specs.Advert.{IsAdvert}
use Rattle.hn_advert.specs.declared.advert.Advert.{Advert}
use Rattle.hn_deleg.specs.Laws.{UsableIsUnique}
use Rattle.hn_io.specs.declared.fault.IoFault.{IoFault}
use Rattle.hn_link.specs.Election.{HasOneAnswer}
use Rattle.hn_link.specs.Laws.{CommonLinkIsUnique}
use Rattle.hn_router.specs.Laws.{RouterHasOneAdvert}
use Rattle.hn_rules.specs.declared.done.Note.{Note}
use Rattle.hn_script.specs.declared.line.Line.{Line}
use Rattle.hn_ula.specs.Laws.{DecisionIsUnique}
use Rattle.hn_sync.specs.Laws.{ExchangeIsUnique}
use Rattle.hn_wire.specs.declared.datagram.Datagram.{Datagram}
use Rattle.hn_world.specs.declared.event.WEvent.TheVariants as event
use Rattle.hn_world.specs.Laws.{StepIsUnique, AgreementIsUnique}
use Rattle.hn_play.specs.declared.end.End.{End}
use Rattle.hn_play.specs.declared.end.End.TheVariants as end
use Rattle.hn_play.specs.declared.end.Stop.{Stop}
use Rattle.hn_play.specs.Delivery.{EventNotes, DeliveryEnds}
use Rattle.hn_lab.specs.Play.{IsPlay, IsCut, IsCutPlay}
use Rattle.hn_play.specs.Stage.{Stage, Route, Mail, OverWire}
use Rattle.hn_play.specs.Told.{Told}

-- Bytes are at most one Router Advertisement.
abbrev pub AdvertIsUnique : Type 0
AdvertIsUnique = (bytes : List ℕ) (a b : Advert) → IsAdvert bytes a → IsAdvert bytes b → a ≡ b

-- What an event does, what a report tells of, and what a router chooses, is one thing. These are laws of the crates below.
pub record ResultsAreUnique : Type 0 where
  pub steps : StepIsUnique
  pub agreements : AgreementIsUnique
  pub usable : UsableIsUnique
  pub common : CommonLinkIsUnique
  pub answer : HasOneAnswer
  pub adverts : RouterHasOneAdvert
  pub readings : AdvertIsUnique
  pub choices : ChoiceIsUnique
  pub decisions : DecisionIsUnique
  pub exchanges : ExchangeIsUnique

-- what copies come to is known: by mail, and over a wire that tells what waits
abbrev pub IsKnownRoute : Route → Type 0
IsKnownRoute Mail = ⊤
IsKnownRoute (OverWire base waiting) = (datagrams : List Datagram) × (waiting ≡ Some datagrams)

-- the wire did not end a play
abbrev pub IsUnbroken : End → Type 0
IsUnbroken end.WireFailed = ⊥
IsUnbroken _ = ⊤

-- Lines have at most one play: one end, one text, and one world with the random words that are to come.
abbrev pub AtMostOnePlay : Type 0
AtMostOnePlay =
    (lines : List (ℕ × Line)) (r q : End) (before a b : Stage) → IsKnownRoute before.route → IsUnbroken r → IsUnbroken q
    → IsPlay lines r before a → IsPlay lines q before b → (r ≡ q) × (a ≡ b)

-- At each line of its text, a play is cut in one way: with one text up to there, and one world.
abbrev pub AtMostOneCutPlay : Type 0
AtMostOneCutPlay =
    (lines : List (ℕ × Line)) (before a b : Stage) → IsKnownRoute before.route → IsCutPlay lines before a → IsCutPlay lines before b
    → length a.text ≡ length b.text → (a.text ≡ b.text) × (a.world ≡ b.world)

-- The text of a play that is cut, wherever, is a front of the text of each play that is not; and of two that are cut, one
-- text is a front of the other.
pub record CutTextsAreFronts : Type 0 where
  pub of_whole : (fault : IoFault) (lines : List (ℕ × Line)) (ending : End) (before a b : Stage) → IsKnownRoute before.route → IsUnbroken ending
      → IsCut fault lines before a → IsPlay lines ending before b → (rest : List Told) × (b.text ≡ a.text ++ rest)
  pub of_cut : (fault other : IoFault) (lines : List (ℕ × Line)) (before a b : Stage) → IsKnownRoute before.route
      → IsCut fault lines before a → IsCut other lines before b
      → ((rest : List Told) × (b.text ≡ a.text ++ rest)) ⊎ ((rest : List Told) × (a.text ≡ b.text ++ rest))

-- The text of a play that the wire ended is a front of the text of each play that it does not end.
abbrev pub BrokenTextsAreFronts : Type 0
BrokenTextsAreFronts =
    (lines : List (ℕ × Line)) (ending : End) (before a b : Stage) → IsKnownRoute before.route → IsUnbroken ending
    → IsPlay lines end.WireFailed before a → IsPlay lines ending before b → (rest : List Told) × (b.text ≡ a.text ++ rest)

-- By mail a delivery is no more than the event.
abbrev pub MailDelivers : Type 0
MailDelivers =
    (copy : ℕ) (notes : List Note) (stop : Option Stop) (before after : Stage) → before.route ≡ Mail
    → DeliveryEnds copy notes stop before after → EventNotes (event.Deliver copy) notes stop before after
