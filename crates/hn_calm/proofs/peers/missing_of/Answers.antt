use Rattle.hn_base.proofs.Names.{◌∙◌, ℕ, None, Some, not, inl, inr, ap, subst, arith, cases_lt}
use Rattle.hn_audit.specs.First.{IsFirstFound}
use Rattle.hn_audit.specs.Heard.{IsLinkedPeer}
use Rattle.hn_calm.specs.Peers.{FindsSentOf, peer_at}
use Rattle.hn_calm.specs.declared.uncalm.PeerAt.{PeerAt}
use Rattle.hn_calm.specs.declared.uncalm.Uncalm.TheVariants as missing
use Rattle.hn_calm.proofs.CalmHomes.{linked_if, none_linked, sent_linked}
use Rattle.hn_calm.proofs.peers.missing_of.Goals as goal

pub returns-then-saturating_add-moment : goal.returns-then-saturating_add-moment
returns-then-saturating_add-moment c =
    let peer = c.args.peer.now in
    let late = c.if-saturating_add-moment.true in
    let sum = c.saturating_add.ensures in
    let now = c.moment.ensures.moment in
    let range = c.moment.ensures.in_range in
    inr (inl (record {
      is = ap (λ (at : PeerAt). missing.Unheard at peer.contact) c.peer_at-at.ensures;
      linked = linked_if c.args.world.now.parts c.args.r.now c.args.y.now c.args.port.now peer c.requires None c.sent.result c.sent.ensures (c.is_none.ensures ∙ ap not c.if-is_none.false);
      long = omega (arith, late, sum, now, range);
    }))

pub returns-in-Some : goal.returns-in-Some
returns-in-Some c =
    let w = c.args.world.now.parts in
    let y = c.args.y.now in
    let q = c.args.port.now in
    let peer = c.args.peer.now in
    let first = subst (IsFirstFound (FindsSentOf y q.id peer (Some peer.contact)) w.members) c.in-Some.is c.sent-2.ensures in
    let found = sent_linked w c.args.r.now y q peer c.requires (Some peer.contact) c.in-Some.sent first in
    let soon = c.if-saturating_add-moment.false in
    let sum = c.saturating_add.ensures in
    let now = c.moment.ensures.moment in
    inr (inr (record {
      linked = found.0;
      is = ap (λ (at : PeerAt). missing.Missed at peer.contact c.in-Some.sent) c.peer_at-at.ensures ∙ ap (λ (sent : ℕ). missing.Missed (peer_at y.name q.id peer) peer.contact sent) found.1;
      lately = omega (arith, soon, sum, now);
      since = found.2;
    }))

pub returns-in-None : goal.returns-in-None
returns-in-None c =
    let w = c.args.world.now.parts in
    let r = c.args.r.now in
    let y = c.args.y.now in
    let q = c.args.port.now in
    let peer = c.args.peer.now in
    let first = subst (IsFirstFound (FindsSentOf y q.id peer (Some peer.contact)) w.members) c.in-None.is c.sent-2.ensures in
    let soon = c.if-saturating_add-moment.false in
    let sum = c.saturating_add.ensures in
    let now = c.moment.ensures.moment in
    record {
      linked = linked_if w r y q peer c.requires None c.sent.result c.sent.ensures (c.is_none.ensures ∙ ap not c.if-is_none.false);
      lately = omega (arith, soon, sum, now);
      last = λ (l : IsLinkedPeer w r y q peer). elim (cases_lt peer.contact l.port.sent) [
        | inl later ↦ absurd (none_linked w r y q peer (Some peer.contact) first l later)
        | inr heard ↦ heard
      ];
    }
