-- A settled and quiet router whose peers are linked becomes calm while nothing is lost.
use Rattle.hn_base.proofs.Names.{◌≡◌, ◌<◌, ◌≤◌, ◌+◌, ◌-◌, ℕ, List, [], ◌∷◌, length, slice_get, inr, sym, arith, subst, All-contains, slice_get-get_or, ap, ◌∙◌, Some, Contains, same_Some}
use Rattle.hn_audit.proofs.Names.{Port, Traced, Member, Parts, IsReplayed, IsSoundMember, IsResting, AreHeardSince, ArePeersLinked, AreSendsHeardSince, AreDelivered, IsReached, IsMemberAt}
use Rattle.hn_rules.specs.Router.{IsPortPast}
use Rattle.hn_audit.specs.Lasting.{CalmComes, GoesTimely, IsLastingHome}
use Rattle.hn_audit.proofs.LastingTurns.{LastingLaws, turn_lasts}
use Rattle.hn_audit.proofs.RestsOnwards.{GoesOn, both_go}
use Rattle.hn_audit.proofs.RoundsRenewed.{GoesRound, RoundLaws, all_rounds, heard_since, replays_all, rests_now, still_waiting}
use Rattle.hn_audit.proofs.TurnsOfTicks.{ends_late}

-- nothing was sent later than now
none_sent : (w : Parts) (r : Member) → ((m : Member) → Contains w.members m → IsSoundMember w.moment m) → AreSendsHeardSince (w.moment + 1) w r
none_sent w r sound i j x y p q peer at_i at_j x_in y_in p_in q_in peer_in node endpoint other link late =
    let one = sound x x_in.runs.there in
    let past = (All-contains (IsPortPast x.router.moment) x.router.ports p one.router.well.past.ports p_in).sent in
    let then = one.past in
    absurd (omega (arith, late, past, then))

-- timely events are without loss, as long as nothing ends
record GoesQuietly (start until heard since place : ℕ) (before after : Parts) (r : Member) : Type 0 where
  pub round : GoesRound start heard since place before after r
  pub home : IsLastingHome until after ((round.heard_on).goes).next
  pub replays : IsReplayed after

timely_round : LastingLaws → (start until heard since place : ℕ) (ts : List Traced) (before after : Parts) (r : Member) → IsReplayed before → slice_get before.members place ≡ Some r
    → IsResting since before r → AreHeardSince heard before r → heard ≤ before.moment → ArePeersLinked before r → AreSendsHeardSince start before r → IsLastingHome until before r
    → GoesTimely until heard since before ts after → GoesQuietly start until heard since place before after r
timely_round laws start until heard since place ts before after r replays at rest peers later linked sends home timely =
    let rounds = laws.turns.rounds in
    let lasts = turn_lasts laws start until heard since place ts before after r replays at rest peers later linked sends home timely in
    let all = all_rounds rounds start heard since place ts before after r replays at rest peers later linked sends lasts.goes in
    let goes = (all.heard_on).goes in
    record { round = all; home = lasts.home goes.next goes.here.is; replays = replays_all rounds heard since place ts before after replays lasts.goes }

pub calm_comes : LastingLaws → CalmComes
calm_comes laws ts last moment until heard place before middle after r replays at nearly home timely timely_last ticked none long past =
    let rounds = laws.turns.rounds in
    let start = before.moment + 1 in
    let since = length before.copies in
    let rest = rests_now before r nearly.runs nearly.settled nearly.quiet nearly.current in
    let sound : (m : Member) → Contains before.members m → IsSoundMember before.moment m =
    λ m there. All-contains (IsSoundMember before.moment) before.members m (rounds.heard.resting.calm.stay.worlds.sound before replays) there in
    let first = timely_round laws start until heard since place ts before middle r replays at rest nearly.peers nearly.later nearly.linked (none_sent before r sound) home timely in
    let one = (first.round).heard_on in
    let goes = one.goes in
    let lasts = turn_lasts laws start until heard since place last middle after goes.next first.replays goes.here.is goes.resting one.peers one.later (first.round).linked (first.round).sends
    first.home timely_last in
    let all = all_rounds rounds start heard since place last middle after goes.next first.replays goes.here.is goes.resting one.peers one.later (first.round).linked (first.round).sends lasts.goes in
    let two = (all.heard_on).goes in
    let delivered : AreDelivered (moment - 19999) after two.next = record {
      none_waits = λ k mail y there to reached waits. none k mail there waits;
      sends = λ x p reached p_in.
          let (k, within, is) = reached.runs.there in
          let at_k : slice_get after.members k ≡ Some x = slice_get-get_or after.members k x within ∙ ap Some is in
          let (m, both) = two.was k x at_k in
          let was : IsReached middle goes.next m = (two.keeps k m x both).0.1 reached in
          let end = ends_late laws.turns start moment k heard since place last middle after goes.next first.replays goes.here.is goes.resting one.peers one.later
          (first.round).linked (first.round).sends lasts.goes (inr (lasts.ticked moment k (ticked k m both.was was.runs.running))) in
          let next_is : two.next ≡ end.next = same_Some two.next end.next (sym two.here.is ∙ end.here) in
          let less = end.late x p at_k (subst (λ (z : Member). IsReached after z x) next_is reached) p_in in
          omega (arith, less);
    } in
    let both = both_go since place before middle after r goes two in (
      two.next,
      record { was = at; is = two.here.is },
      record {
        runs = two.resting.runs;
        settled = two.resting.settled;
        quiet = two.resting.quiet;
        current = still_waiting since after two.next two.resting;
        later = omega (arith, past);
        peers = heard_since start after two.next all.linked all.sends (moment - 19999) (omega (arith, long)) delivered;
        linked = all.linked;
        sends = λ i j x y p q peer at_i at_j x_in y_in p_in q_in peer_in node endpoint other link _.
            let sent = delivered.sends x p x_in p_in in
            all.sends i j x y p q peer at_i at_j x_in y_in p_in q_in peer_in node endpoint other link (omega (arith, sent, long));
      },
      both.keeps,
      lasts.home two.next two.here.is,
    )
