-- A datagram arrives that is a list of TLVs from a link-local address, at an endpoint that is attached.
use Rattle.hn_base.proofs.Names.{◌≡◌, ◌∙◌, ℕ, true, false, not, List, [], ◌++◌, map, Some, sym, ap, subst, inl, inr, IsLinkLocal, Then, Each}
use Rattle.hn_sync.proofs.Names.{IsPacking, is_attached, Arrive, IsEvent, Done, Outgoing, Origin, Running, State, IsTlvRule, IsArrival, IsRefresh, begun_at, PlainTlv, IsTlvList, ListIsUnique}
use Rattle.hn_sync.proofs.Names.{ListHasNoFirstFault}
use Rattle.hn_router.specs.Act.{Happened}
use Rattle.hn_sync.proofs.Answering.{tlvs_send_nothing}

-- datagrams are sent back
abbrev pub sends_of : Origin → List (List ℕ) → List Outgoing
sends_of from datagrams = map (λ bytes. record { endpoint = from.endpoint; to = Some from.from; bytes = bytes }) datagrams

-- each TLV ran its rule and a refresh, and the answers were sent back
pub record HasArrived (now : ℕ) (from : Origin) (tlvs : List PlainTlv) (s next : State) (done : Done) : Type 0 where
  pub last : Running
  pub walked : Each (λ tlv. Then (IsTlvRule from tlv) IsRefresh) tlvs (begun_at now s) last
  pub due : ℕ
  pub is_next : next ≡ record last.state { due = due }
  pub datagrams : List (List ℕ)
  pub packed : IsPacking last.state.id from.endpoint (map (λ a. a.tlv) last.answers) datagrams
  pub sends : done.sends ≡ sends_of from datagrams

pub has_arrived : ListIsUnique → ListHasNoFirstFault → (now : ℕ) (from : Origin) (bytes : List ℕ) (tlvs : List PlainTlv) (s next : State) (done : Done)
    → IsLinkLocal from.from.ip → is_attached from.endpoint s.ports ≡ true
    → IsTlvList tlvs bytes → Happened now (Arrive from bytes) s next done → HasArrived now from tlvs s next done
unfolding Happened
has_arrived one no_fault now from bytes tlvs s next done near attached list h = by_event h.1
  where
    by_arrival : IsArrival from tlvs (begun_at now s) h.0 → HasArrived now from tlvs s next done
    by_arrival k =
        let none : (k.0).done.sends ≡ [] = tlvs_send_nothing from tlvs (begun_at now s) k.0 k.1 in
        let after : (h.0).state ≡ (k.0).state = ap (λ (r : Running). r.state) k.2.gives in
        record {
          last = k.0;
          walked = k.1;
          due = h.2.0;
          is_next = h.2.2 ∙ ap (λ (x : State). let y : State = record x { due = h.2.0 } in y) after;
          datagrams = k.2.datagrams;
          packed = k.2.packed;
          sends = ap (λ (d : Done). d.sends) h.3 ∙ (ap (λ (r : Running). r.done.sends) k.2.gives ∙ ap (λ (xs : List Outgoing). xs ++ sends_of from k.2.datagrams) none);
        }

    by_event : IsEvent (Arrive from bytes) (begun_at now s) h.0 → HasArrived now from tlvs s next done
    by_event (inl k) = absurd (let clash : false ≡ true = sym (ap not attached) ∙ k.0 in cc)
    by_event (inr (k, inl far)) = absurd (far.far near)
    by_event (inr (k, inr (inl bad))) = absurd (no_fault bytes bad.place bad.why bad.fault (tlvs, list))
    by_event (inr (k, inr (inr read))) = by_arrival (subst (λ (ts : List PlainTlv). IsArrival from ts (begun_at now s) h.0) (one read.tlvs tlvs bytes read.list list) read.arrives)
