-- When something is next due for a router.
use Rattle.hn_base.proofs.Names.{◌≡◌, ◌∙◌, ◌⊎◌, ◌<◌, ◌≤◌, ℕ, ◌^◌, inl, inr, List, Option, Some, None, Result, Ok, Err, sym, ap, subst, filter_map, IsSooner, IsOfElement}
use Rattle.hn_rules.proofs.Names.{sooner_both, EpId, NoMemory, IsExpiryMoment, PlainItem, ItemsAreUnique, interval_of, keep_alive_of, PlainView, Entry, Neighbour, IsForgetting, held, Stored}
use Rattle.hn_rules.proofs.Names.{IsAgeLimit, IsLifetimeEnd, IsHeldDue, IsOwnEnd, State, IsPeerEnd, IsDueAtPort, IsDueAt, view_of, seen_by, HasInterval}
use Rattle.std.proofs.Common.{IfOk}
use Rattle.hn_base.proofs.NextDue.{sooner_same, sooner_is_one}
use Rattle.hn_dncp.specs.Due.{IsPortDue}
use Rattle.hn_rules.specs.Due.{IsOwnAgeDue, IsKeptDue, IsSeenDue, IsNextDue, IsUndueUntil}
use Rattle.hn_rules.specs.Laws.{NextDueIsOne}

-- a peer has one keep-alive interval
one_interval : ItemsAreUnique → (stored : Option Stored) (e : EpId) (m n : ℕ) → HasInterval stored e m → HasInterval stored e n → m ≡ n
one_interval one None e m n is other = is ∙ sym other
one_interval one (Some stored) e m n (xs, are, is) (ys, also, other) =
    is ∙ ap (λ (items : List PlainItem). keep_alive_of (filter_map interval_of items) e.0) (one stored.body xs ys are also) ∙ sym other

pub peer_end : ItemsAreUnique → (s : State) (peer : Neighbour) (interval best n : ℕ) → HasInterval (held s.table.entries peer.node.0) peer.endpoint interval
    → IsSooner (IsExpiryMoment peer.contact interval) s.moment best n → IsSooner (IsPeerEnd s.table.entries peer) s.moment best n
peer_end one s peer interval best n promised h =
    sooner_same (IsExpiryMoment peer.contact interval) (IsPeerEnd s.table.entries peer) s.moment best n
    (λ m. (
      λ ends. record { interval = interval; promised = promised; ends = ends },
      λ end. subst (λ (k : ℕ). IsExpiryMoment peer.contact k m) (one_interval one (held s.table.entries peer.node.0) peer.endpoint end.interval interval end.promised promised) end.ends,
    ))
    h

pub kept_due : (s : State) (best a b c n : ℕ) → IsSooner (IsOwnEnd s.delegated) s.moment best a → IsSooner (IsOwnAgeDue s) s.moment a b
    → IsSooner (IsForgetting s.table.entries) s.moment b c → IsSooner (IsHeldDue s.held) s.moment c n → IsSooner (IsKeptDue s) s.moment best n
kept_due s best a b c n ends ages forgets holds =
    let last = sooner_both (IsForgetting s.table.entries) (IsHeldDue s.held) s.moment b c n forgets holds in
    let more = sooner_both (IsOwnAgeDue s) (λ m. IsForgetting s.table.entries m ⊎ IsHeldDue s.held m) s.moment a b n ages last in
    sooner_both (IsOwnEnd s.delegated) (λ m. IsOwnAgeDue s m ⊎ (IsForgetting s.table.entries m ⊎ IsHeldDue s.held m)) s.moment best a n ends more

pub seen_due : (s : State) (view : PlainView) (nodes : List Entry) (best a n : ℕ) → view ≡ seen_by s → nodes ≡ view_of s
    → IsSooner (IsLifetimeEnd view) view.now best a → IsSooner (IsAgeLimit nodes s.moment) s.moment a n → IsSooner (IsSeenDue s) s.moment best n
seen_due s view nodes best a n is are ends limits =
    sooner_both (IsLifetimeEnd (seen_by s)) (IsAgeLimit (view_of s) s.moment) s.moment best a n
    (subst (λ (v : PlainView). IsSooner (IsLifetimeEnd v) v.now best a) is ends)
    (subst (λ (ns : List Entry). IsSooner (IsAgeLimit ns s.moment) s.moment a n) are limits)

pub one_next_due : NextDueIsOne
one_next_due s m n = sooner_is_one (IsDueAt s) s.moment (2 ^ 49) m n

pub due_of_parts : (s : State) (ports kept : ℕ) (first : Result ℕ NoMemory) → IsSooner (IsOfElement (IsDueAtPort s.table.entries) s.ports) s.moment (2 ^ 49) ports
    → IsSooner (IsKeptDue s) s.moment ports kept → IfOk first (λ n. IsSooner (IsSeenDue s) s.moment kept n) → IfOk first (IsNextDue s)
due_of_parts s ports kept (Err e) of_ports of_kept of_seen = tt
due_of_parts s ports kept (Ok first) of_ports of_kept of_seen =
    sooner_both (IsOfElement (IsDueAtPort s.table.entries) s.ports) (λ m. IsKeptDue s m ⊎ IsSeenDue s m) s.moment (2 ^ 49) ports first of_ports
    (sooner_both (IsKeptDue s) (IsSeenDue s) s.moment ports kept first of_kept of_seen)

-- where nothing is due before the moment at which an endpoint's timers are
pub due_from : (s : State) (until first : ℕ) → first ≡ until → IsUndueUntil until s → IsSooner (IsOfElement IsPortDue s.ports) s.moment (2 ^ 49) first → IsNextDue s until
due_from s until first same undue h = record {
  at_most = subst (λ (n : ℕ). n ≤ 2 ^ 49) same h.at_most;
  least = undue;
  is = elim h.is [
    | inl none ↦ inl (sym same ∙ none)
    | inr ((port, there, due), after) ↦ inr (subst (λ (n : ℕ). IsDueAt s n × (s.moment < n)) same (inl (port, there, inr due), after))
  ];
}
