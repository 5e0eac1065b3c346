-- Router Advertisements that are sent in time.
use Rattle.std.specs.Prelude.{◌≡◌, ◌≢◌, ◌⊎◌, ℕ, suc, Bool, true, false, if◌then◌else◌, List, [], ◌∷◌, ◌++◌, codes, position, Option, None, Some}
use Rattle.std.specs.Fmt.{decimal}
use Rattle.std.specs.List.{slice_set}
use Rattle.hn_advert.specs.Advert.{IsAdvert, advert_bytes}
use Rattle.hn_advert.specs.declared.advert.Advert.{Advert}
use Rattle.hn_base.specs.HexText.{hex_text}
use Rattle.hn_base.specs.Name.{name_text}
use Rattle.hn_base.specs.declared.ids.EpId.{EpId}
use Rattle.hn_base.specs.declared.name.Name.{Name}
use Rattle.hn_radv.specs.Sender.{PlainSender, started_sender, solicited, is_due, draws, sent}
use Rattle.hn_router.specs.Advertising.{IsAdvertAt}
use Rattle.hn_world.specs.declared.event.WEvent.TheVariants as event
use Rattle.hn_world.specs.declared.member.Member.{Member}
use Rattle.hn_world.specs.Names.{member_named}
use Rattle.hn_play.specs.declared.end.Stop.{Stop}
use Rattle.hn_senders.specs.declared.senders.Sending.{Sending}
use Rattle.hn_senders.specs.declared.senders.Shape.{Shape}
use Rattle.hn_play.specs.Delivery.{EventEnds}
use Rattle.hn_play.specs.Process.{Process, Nothing, ThenProcess, EachProcess}
use Rattle.hn_senders.specs.Senders.{shape_of, sends_at, sender_endpoints, IsSenderAt, with_sender, without_sender, without_senders}
use Rattle.hn_play.specs.Stage.{Stage}
use Rattle.hn_play.specs.Tells.{TellsLines}

-- the line on a Router Advertisement that is sent: its router, its endpoint, the moment, and its bytes
abbrev pub ra_line : Name → EpId → ℕ → List ℕ → List ℕ
ra_line name e now bytes =
    codes "ra " ++ name_text name ++ codes " " ++ decimal e.0 ++ codes " " ++ decimal now ++ codes " " ++ hex_text bytes ++ 10 ∷ []

-- ---- a turn

-- When a sender sends, where this is the shape of its advertisement now. It is told of a change where the shape is another than
-- that sent last; where none was sent it is another.
abbrev pub IsAsked : ℕ → Shape → Sending → PlainSender → Type 0
IsAsked now shape s asked =
    ((s.shape ≡ Some shape) × (asked ≡ s.sender)) ⊎ ((s.shape ≢ Some shape) × (asked ≡ solicited now 0 s.sender))

-- the sender at a place is this one
abbrev pub with_this : ℕ → Sending → Stage → Stage
with_this place s p = record p { senders = slice_set p.senders place s }

-- the first word to come is taken, if one is
abbrev pub drawing : Bool → Stage → Stage
drawing draw p = record p { words = if draw then (λ at. p.words (suc at)) else p.words }

-- it sends: this shape was sent last, and a word may say when it sends again
abbrev pub sending_now : ℕ → Sending → PlainSender → Shape → Stage → Stage
sending_now place s asked shape p =
    drawing (draws asked) (with_this place (record s { sender = sent p.world.moment (p.words 0) asked; shape = Some shape }) p)

-- it has its turn: whether an advertisement of this shape is due, and then it is sent
pub record IsDue (place : ℕ) (s : Sending) (shape : Shape) (due : Bool) (before after : Stage) : Type 0 where
  pub asked : PlainSender
  pub is_asked : IsAsked before.world.moment shape s asked
  pub due_is : due ≡ is_due before.world.moment asked
  pub after_is : after ≡ (if due then sending_now place s asked shape before else with_this place (record s { sender = asked }) before)

-- where it is sent, its line comes up
abbrev pub line_if : Bool → List ℕ → List (List ℕ)
line_if true line = line ∷ []
line_if false line = []

-- an endpoint of a router that sends has its turn
pub record IsTurn (name : Name) (e : EpId) (stop : Option Stop) (before after : Stage) : Type 0 where
  pub member : Member
  pub is_member : member_named (name_text name) before.world ≡ Some member
  pub place : ℕ
  pub sending : Sending
  pub is_at : IsSenderAt name e before.senders place sending
  pub advert : Advert
  pub is_advert : IsAdvertAt member.router e advert
  pub is_read : IsAdvert (advert_bytes advert) advert
  pub due : Bool
  pub between : Stage
  pub comes : IsDue place sending (shape_of advert) due before between
  pub ends : TellsLines (line_if due (ra_line name e before.world.moment (advert_bytes advert))) stop between after

-- there is no such router, or its endpoint does not send
abbrev pub HasNoTurn : Name → EpId → Stage → Type 0
HasNoTurn name e p = (member_named (name_text name) p.world ≡ None) ⊎ (position (sends_at name e) p.senders ≡ None)

abbrev pub MayTurn : Name → EpId → Process
MayTurn name e stop before after =
    (HasNoTurn name e before × (stop ≡ None) × (after ≡ before)) ⊎ IsTurn name e stop before after

-- ---- after a tick

-- the turn of an endpoint, before which all may be cut
abbrev pub TurnEnds : Name → EpId → Process
TurnEnds name e stop before after = ThenProcess Nothing (MayTurn name e) stop before after

-- the endpoints of a router that send have their turns, in ascending order
abbrev pub Turns : Name → Process
Turns name stop before after = EachProcess (TurnEnds name) (sender_endpoints name before.senders) stop before after

-- a router ticks, and then its endpoints that send have their turns
abbrev pub TickEnds : Name → Process
TickEnds name stop before after = ThenProcess (EventEnds (event.Tick name)) (Turns name) stop before after

-- ---- senders begin, are solicited, and end

-- an endpoint begins to send, anew where it sends
abbrev pub starting : Name → EpId → Stage → Stage
starting name e p =
    record p { senders = with_sender (record { name = name; endpoint = e; sender = started_sender p.world.moment; shape = None }) p.senders }

-- an endpoint sends no more; those of a router send no more
abbrev pub ended_sending : Name → EpId → Stage → Stage
ended_sending name e p = record p { senders = without_sender name e p.senders }

abbrev pub ending_all : Name → Stage → Stage
ending_all name p = record p { senders = without_senders name p.senders }

-- an endpoint that sends gets a solicitation, and a word says when it is answered
pub record IsSolicited (name : Name) (e : EpId) (before after : Stage) : Type 0 where
  pub place : ℕ
  pub sending : Sending
  pub is_at : IsSenderAt name e before.senders place sending
  pub after_is : after ≡ drawing true (with_this place (record sending { sender = solicited before.world.moment (before.words 0) sending.sender }) before)

-- a solicitation comes; where the endpoint does not send, nothing happens, and no word is taken
abbrev pub Solicits : Name → EpId → Process
Solicits name e stop before after =
    (stop ≡ None) × (((position (sends_at name e) before.senders ≡ None) × (after ≡ before)) ⊎ IsSolicited name e before after)
