-- What holds of an endpoint still holds after each thing that happens to it.
use Rattle.hn_base.proofs.Names.{◌≤◌, ℕ, Bool, true, false, cond, List, [], ◌∷◌, ◌++◌, length, map, get_or, Option, Some, None, arith, All, ◌==◌, cond_both, All-nil, All-map, All-push}
use Rattle.hn_rules.proofs.Names.{NodeId, EpId, Interval, interval_from, has_to_send, is_keep_alive_due, Neighbour, Port, is_peer, has_peer, attached_port, peers_heard, may_ask, asked, contacted, hashed}
use Rattle.hn_rules.proofs.Names.{ticked, Without, IfThere}
use Rattle.std.specs.Prelude.{slice_index}
use Rattle.hn_base.specs.declared.addr.Addr.{Addr}
use Rattle.hn_timers.specs.Interval.{is_interval_over}
use Rattle.hn_timers.specs.Length.{next_length}
use Rattle.hn_dncp.specs.Peers.{IsOther, ArePeers}
use Rattle.hn_dncp.specs.Greet.{greeted}
use Rattle.hn_dncp.specs.Ask.{asked_at}
use Rattle.hn_dncp.specs.Tick.{after_firing, after_interval, after_keep_alive, interval_words}
use Rattle.hn_rules.specs.Router.{IsPortPast}
use Rattle.hn_rules.proofs.LawsFromBelow.{KnownLaws}
use Rattle.hn_rules.proofs.Finding.{without-few, without-all, without-pairs}

-- the facts of an endpoint
pub record IsPortWell (now : ℕ) (port : Port) : Type 0 where
  pub peers : ArePeers port.peers
  pub past : IsPortPast now port

-- ---- peers

pub ArePeers-without : (P : Neighbour → Type 0) (peers kept : List Neighbour) → Without P peers kept → ArePeers peers → ArePeers kept
ArePeers-without P peers kept without are = record {
  few = let fewer = without-few P peers kept without in let few = are.few in omega arith;
  once = without-pairs P IsOther peers kept without are.once;
}

-- ---- when they were heard

abbrev pub IsHeardBy : ℕ → Neighbour → Type 0
IsHeardBy now peer = peer.contact ≤ now

heard-met : (now : ℕ) (peer : Neighbour) (peers : List Neighbour) → peer.contact ≤ now → All (IsHeardBy now) peers → All (IsHeardBy now) (peers_heard peer peers)
heard-met now peer peers one all =
    let renewed = map (λ other. cond (is_peer peer.node peer.endpoint other) peer other) peers in
    cond_both (has_peer peer.node peer.endpoint peers) renewed (cond (length peers == 64) peers (peers ++ peer ∷ [])) (All (IsHeardBy now))
    (λ _. All-map (IsHeardBy now) (λ other. cond (is_peer peer.node peer.endpoint other) peer other) peers
    (λ k d within. cond_both (is_peer peer.node peer.endpoint (get_or peers k d)) peer (get_or peers k d) (IsHeardBy now) (λ _. one) (λ _. all k d within)))
    (λ _. cond_both (length peers == 64) peers (peers ++ peer ∷ []) (All (IsHeardBy now)) (λ _. all) (λ _. All-push (IsHeardBy now) peers peer all one))

heard-contacted : (sender : Option (NodeId × EpId)) (now : ℕ) (peers : List Neighbour) → All (IsHeardBy now) peers → All (IsHeardBy now) (contacted sender now peers)
heard-contacted None now peers all = all
heard-contacted (Some sender) now peers all =
    All-map (IsHeardBy now) (λ peer. cond (is_peer sender.0 sender.1 peer) (record peer { contact = now }) peer) peers
    (λ k d within. cond_both (is_peer sender.0 sender.1 (get_or peers k d)) (record (get_or peers k d) { contact = now }) (get_or peers k d) (IsHeardBy now) (λ _. omega arith) (λ _. all k d within))

-- ---- an endpoint

module _ (now : ℕ) where
  abbrev By : ℕ → Type 0
  By moment = moment ≤ now

  -- one that begins
  pub well-begun : (at : EpId) (word : ℕ) → IsPortWell now (attached_port at now word)
  well-begun at word = record {
    peers = record { few = omega arith; once = λ i j d less within. absurd (omega arith) };
    past = record { begun = omega arith; sent = omega arith; asked = tt; heard = All-nil (IsHeardBy now) };
  }

  -- one that begins an interval
  pub well-started : (len word : ℕ) (port : Port) → IsPortWell now port → IsPortWell now (record port { trickle = interval_from now len word })
  well-started len word port well = record {
    peers = well.peers;
    past = record { begun = omega arith; sent = well.past.sent; asked = well.past.asked; heard = well.past.heard };
  }

  -- one that loses peers
  pub well-without : (P : Neighbour → Type 0) (port : Port) (kept : List Neighbour) → Without P port.peers kept → IsPortWell now port → IsPortWell now (record port { peers = kept })
  well-without P port kept without well = record {
    peers = ArePeers-without P port.peers kept without well.peers;
    past = record { begun = well.past.begun; sent = well.past.sent; asked = well.past.asked; heard = without-all P (IsHeardBy now) port.peers kept without well.past.heard };
  }

  asked_by : (last : Option ℕ) → IfThere By last → IfThere By (asked_at now last)
  asked_by last by = cond_both (may_ask now last) (Some now) last (IfThere By) (λ _. omega arith) (λ _. by)

  -- one that asks
  pub well-asked : (port : Port) → IsPortWell now port → IsPortWell now (asked now port)
  well-asked port well = record {
    peers = well.peers;
    past = record { begun = well.past.begun; sent = well.past.sent; asked = asked_by port.asked well.past.asked; heard = well.past.heard };
  }

  -- one that greets
  pub well-greeted : KnownLaws → (node : NodeId) (endpoint : EpId) (from : Addr) (multicast : Bool) (port : Port) → IsPortWell now port → IsPortWell now (greeted node endpoint from multicast now port)
  well-greeted known node endpoint from multicast port well =
      let peer : Neighbour = record { node = node; endpoint = endpoint; contact = now; addr = from } in
      record {
        peers = cond_both multicast port.peers (peers_heard peer port.peers) ArePeers (λ _. well.peers) (λ _. known.peers_met peer port.peers well.peers);
        past = record {
          begun = well.past.begun;
          sent = well.past.sent;
          asked = well.past.asked;
          heard = cond_both multicast port.peers (peers_heard peer port.peers) (All (IsHeardBy now)) (λ _. well.past.heard) (λ _. heard-met now peer port.peers (omega arith) well.past.heard);
        };
      }

  -- one that hears a network state hash
  pub well-hashed : KnownLaws → (same : Bool) (sender : Option (NodeId × EpId)) (port : Port) → IsPortWell now port → IsPortWell now (hashed same sender now port)
  well-hashed known true sender port well = record {
    peers = known.peers_contacted sender now port.peers well.peers;
    past = record { begun = well.past.begun; sent = well.past.sent; asked = well.past.asked; heard = heard-contacted sender now port.peers well.past.heard };
  }
  well-hashed known false sender port well = record {
    peers = well.peers;
    past = record { begun = well.past.begun; sent = well.past.sent; asked = asked_by port.asked well.past.asked; heard = well.past.heard };
  }

  -- ---- a tick

  well-firing : (port : Port) → IsPortWell now port → IsPortWell now (after_firing now port)
  well-firing port well = record {
    peers = well.peers;
    past = record {
      begun = well.past.begun;
      sent = cond_both (has_to_send now port.trickle) now port.sent By (λ _. omega arith) (λ _. well.past.sent);
      asked = well.past.asked;
      heard = well.past.heard;
    };
  }

  abbrev BegunBy : Interval → Type 0
  BegunBy i = i.begin ≤ now

  well-interval : (word : ℕ) (port : Port) → IsPortWell now port → IsPortWell now (after_interval now word port)
  well-interval word port well = record {
    peers = well.peers;
    past = record {
      begun = cond_both (is_interval_over now port.trickle) (interval_from now (next_length port.trickle.len) word) port.trickle BegunBy (λ _. omega arith) (λ _. well.past.begun);
      sent = well.past.sent;
      asked = well.past.asked;
      heard = well.past.heard;
    };
  }

  well-keep_alive : (word : ℕ) (port : Port) → IsPortWell now port → IsPortWell now (after_keep_alive now word port)
  well-keep_alive word port well = record {
    peers = well.peers;
    past = record {
      begun = cond_both (is_keep_alive_due port.sent now) (interval_from now port.trickle.len word) port.trickle BegunBy (λ _. omega arith) (λ _. well.past.begun);
      sent = cond_both (is_keep_alive_due port.sent now) now port.sent By (λ _. omega arith) (λ _. well.past.sent);
      asked = well.past.asked;
      heard = well.past.heard;
    };
  }

  pub well-ticked : (words : List ℕ) (port : Port) → IsPortWell now port → IsPortWell now (ticked now words port)
  well-ticked words port well =
      well-keep_alive (slice_index words (interval_words now port)) (after_interval now (slice_index words 0) (after_firing now port))
      (well-interval (slice_index words 0) (after_firing now port) (well-firing port well))
