-- An endpoint begins to send, and a solicitation comes to it.
use Rattle.hn_base.proofs.Names.{◌≡◌, ◌∙◌, ℕ, suc, List, [], None, Some, refl, ap, same_Some}
use Rattle.hn_lab.proofs.Names.{EpId, Name, PlainSender, solicited, Sending, Leaves, OtherEnds, unless_elects, IsSenderAt, with_this, starting, IsSolicited, Solicits, Stage}
use Rattle.hn_radv.specs.Sender.{started_sender}
use Rattle.hn_senders.specs.Senders.{with_sender}
use Rattle.hn_play.proofs.RunStops.{nothing_left}
use Rattle.hn_script.specs.declared.line.Line.TheVariants as line

-- an endpoint begins to send
pub radv_left : (name : Name) (e : EpId) (now : ℕ) (lines : List (List ℕ)) (p a : Stage) → unless_elects name e p.world ≡ None → now ≡ p.world.moment
    → a ≡ record p { senders = with_sender (record { name = name; endpoint = e; sender = started_sender now; shape = None }) p.senders } → lines ≡ [] → Leaves (OtherEnds (line.Radv name e)) lines p a
radv_left name e now lines p a none now_is after_is empty =
    let done : a ≡ starting name e p =
    after_is ∙ ap (λ (n : ℕ). record p { senders = with_sender (record { name = name; endpoint = e; sender = started_sender n; shape = None }) p.senders }) now_is in
    nothing_left (OtherEnds (line.Radv name e)) lines p a empty (p, (none, refl), (refl, done))

-- a solicitation comes to one
pub solicit_left : (name : Name) (e : EpId) (lines : List (List ℕ)) (p a : Stage) → unless_elects name e p.world ≡ None → Solicits name e None p a → lines ≡ []
    → Leaves (OtherEnds (line.Solicit name e)) lines p a
solicit_left name e lines p a none done empty = nothing_left (OtherEnds (line.Solicit name e)) lines p a empty (p, (none, refl), done)

pub is_solicited : (name : Name) (e : EpId) (place : ℕ) (s : Sending) (now word : ℕ) (sender : PlainSender) (next : ℕ → ℕ) (p a : Stage)
    → IsSenderAt name e p.senders place s → now ≡ p.world.moment → word ≡ p.words 0
    → sender ≡ solicited now word s.sender → Some next ≡ Some (λ at. p.words (suc at)) → a ≡ record (with_this place (record s { sender = sender }) p) { words = next } → IsSolicited name e p a
is_solicited name e place s now word sender next p a is_at now_is word_is sender_is next_is after_is = record {
  place = place;
  sending = s;
  is_at = is_at;
  after_is =
      let words = same_Some next (λ at. p.words (suc at)) next_is in
      let sender' = sender_is ∙ (λ i. solicited (now_is i) (word_is i) s.sender) in
      after_is ∙ (λ i. record (with_this place (record s { sender = sender' i }) p) { words = words i });
}
