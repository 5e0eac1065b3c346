-- Each event has at most one result over one stream of words.
use Rattle.hn_base.proofs.Names.{◌≡◌, ◌∙◌, ◌⊎◌, ℕ, false, List, ap, refl, sym, inl, inr}
use Rattle.hn_router.proofs.Names.{IsTrue, EpId, PlainTlv, IsTlvList, ListHasNoFirstFault, Running, Origin, IsSole, noted, words_taken, IsArrival, IsAttaching, IsRestarting, IsRefresh, PlainEvent}
use Rattle.hn_router.proofs.Names.{Arrive, Tick, Attach, Restart, is_refused, IsEdit, IsEventRule, IsEvent, IsTick}
use Rattle.hn_tlv.specs.Laws.{ListIsUnique, FirstFaultIsUnique}
use Rattle.hn_rules.specs.declared.done.Note.TheVariants as note
use Rattle.hn_router.specs.Act.{IsFar, IsMalformed, IsRead}
use Rattle.hn_base.proofs.OneResult.{sole_given, sole_plain, sole_both, sole_from, sole_or, sole_where, sole_some}
use Rattle.hn_base.proofs.DecidingTests.{not_both}
use Rattle.hn_router.proofs.Edits.{plain_edit}

-- what the laws say of lists of TLVs and of the rules
pub record OneEventLaws : Type 0 where
  pub one_list : ListIsUnique
  pub no_list : ListHasNoFirstFault
  pub one_place : FirstFaultIsUnique
  pub refresh : IsSole IsRefresh
  pub arrival : (from : Origin) (tlvs : List PlainTlv) → IsSole (IsArrival from tlvs)
  pub tick : IsSole IsTick
  pub attaching : (at : EpId) → IsSole (IsAttaching at)
  pub restarting : IsSole IsRestarting

sole_read : OneEventLaws → (from : Origin) (bytes : List ℕ) → IsSole (IsRead from bytes)
sole_read laws from bytes =
    sole_from words_taken (IsRead from bytes) (λ r a. (tlvs : List PlainTlv) × IsTlvList tlvs bytes × IsArrival from tlvs r a) (λ r a h. (h.tlvs, h.list, h.arrives))
    (sole_some words_taken (λ tlvs. IsTlvList tlvs bytes) (IsArrival from) (λ x y. laws.one_list x y bytes) (laws.arrival from))

sole_malformed : OneEventLaws → (from : Origin) (bytes : List ℕ) → IsSole (IsMalformed from bytes)
sole_malformed laws from bytes =
    sole_given words_taken (IsMalformed from bytes) (λ r a h. ap (λ (x : Running). x.done.words) h.gives)
    (λ r a b h k. let same = laws.one_place bytes h.place k.place h.why k.why h.fault k.fault in h.gives ∙ (λ i. noted (note.Malformed (same.0 i) (same.1 i)) r) ∙ sym k.gives)

sole_arrive : OneEventLaws → (from : Origin) (bytes : List ℕ) → IsSole (IsEventRule (Arrive from bytes))
sole_arrive laws from bytes =
    sole_or words_taken (IsFar from) (λ r a. IsMalformed from bytes r a ⊎ IsRead from bytes r a)
    (sole_given words_taken (IsFar from) (λ r a h. ap (λ (x : Running). x.done.words) h.gives) (λ r a b h k. h.gives ∙ sym k.gives))
    (sole_or words_taken (IsMalformed from bytes) (IsRead from bytes) (sole_malformed laws from bytes) (sole_read laws from bytes)
    (λ r a b h k. laws.no_list bytes h.place h.why h.fault (k.tlvs, k.list)))
    (λ r a b h k. elim k [ inl m ↦ h.far m.near | inr m ↦ h.far m.near ])

sole_edit : OneEventLaws → (event : PlainEvent) → IsSole (IsEdit event)
sole_edit laws (Attach at) = laws.attaching at
sole_edit laws Restart = laws.restarting
sole_edit laws event = sole_given words_taken (IsEdit event) (λ r a h. (plain_edit event r a h).0) (λ r a b h k. h ∙ sym k)

sole_rule : OneEventLaws → (event : PlainEvent) → IsSole (IsEventRule event)
sole_rule laws (Arrive from bytes) = sole_arrive laws from bytes
sole_rule laws Tick = laws.tick
sole_rule laws event = sole_both words_taken (IsEdit event) IsRefresh (sole_edit laws event) laws.refresh

pub sole_event : OneEventLaws → (event : PlainEvent) → IsSole (IsEvent event)
sole_event laws event =
    sole_or words_taken (λ r a. IsTrue (is_refused event r.state) × (a ≡ noted note.Refused r)) (λ r a. (is_refused event r.state ≡ false) × IsEventRule event r a)
    (sole_where words_taken (λ r. IsTrue (is_refused event r.state)) (λ r a. a ≡ noted note.Refused r) (sole_plain words_taken (noted note.Refused) (λ r. refl)))
    (sole_where words_taken (λ r. is_refused event r.state ≡ false) (IsEventRule event) (sole_rule laws event))
    (λ r a b h k. not_both _ h.0 k.0)
