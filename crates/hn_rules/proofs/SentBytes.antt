-- A datagram that is sent is a list of bytes.
use Rattle.hn_base.proofs.Names.{◌≡◌, ◌⊎◌, ℕ, List, [], ◌∷◌, map, inl, inr, refl, sym, subst, All, cond_both, All-nil, All-cons, All-head, All-tail, All-append, All-push, All-map, IsByte}
use Rattle.hn_rules.proofs.Names.{EpId, NodeId, PlainTlv, IsTlv, spelling, ListIsOfBytes, IsHash, NetworkState, tlv_of, PackingIsRead, IsPacking, AreRead, sender_tlv, Answer, Outgoing, Running}
use Rattle.hn_rules.proofs.Names.{is_answered, ArePacked, AddAnswer, AddSends, ForgetAnswers, ChangesKeepHashed}
use Rattle.hn_rules.specs.Laws.{ChangesKeepBytes}
use Rattle.hn_rules.specs.Spelled.{IsSpelled}
use Rattle.hn_rules.proofs.AnswerTlvs.{AnswerLaws, network_tlv, answer_tlv}

abbrev AreBytes : List ℕ → Type 0
AreBytes = All IsByte

-- these are the spellings of TLVs
abbrev AreSpelled : List (List ℕ) → Type 0
AreSpelled written = (tlvs : List PlainTlv) × (written ≡ map spelling tlvs) × All IsTlv tlvs

spelled_cons : (tlv : PlainTlv) (bytes : List ℕ) (written : List (List ℕ)) → IsTlv tlv → bytes ≡ spelling tlv → AreSpelled written → AreSpelled (bytes ∷ written)
spelled_cons tlv bytes written is spelled (tlvs, are, each) = (tlv ∷ tlvs, rw (spelled, are) refl, All-cons IsTlv tlv tlvs is each)

answers_spelled : (answers : List Answer) → All IsSpelled answers → AreSpelled (map (λ a. a.tlv) answers)
answers_spelled [] all = ([], refl, All-nil IsTlv)
answers_spelled (a ∷ answers) all =
    let (tlv, is, spelled) = All-head IsSpelled a answers all in
    spelled_cons tlv a.tlv (map (λ (x : Answer). x.tlv) answers) is spelled (answers_spelled answers (All-tail IsSpelled a answers all))

module _ (of_bytes : ListIsOfBytes) (packing : PackingIsRead) where
  -- datagrams that are read as lists of TLVs
  read_bytes : (own : NodeId) (endpoint : EpId) (tlvs : List PlainTlv) (datagrams : List (List ℕ)) → AreRead own endpoint tlvs datagrams → All AreBytes datagrams
  read_bytes own endpoint tlvs [] read = All-nil AreBytes
  read_bytes own endpoint tlvs (datagram ∷ datagrams) (group, rest, is, list, more) =
      All-cons AreBytes datagram datagrams (of_bytes (sender_tlv own endpoint ∷ group) datagram list) (read_bytes own endpoint rest datagrams more)

  sends_bytes : (r : Running) (sends : List Outgoing) → IsHash r.state.net → All IsSpelled r.answers → ArePacked r sends → All (λ o. AreBytes o.bytes) sends
  sends_bytes r sends hash answers packed =
      let (tlvs, are, each) = spelled packed.tlvs_are in
      let read : AreRead r.state.id packed.endpoint tlvs packed.datagrams =
      packing r.state.id packed.endpoint tlvs packed.datagrams each (subst (λ (list : List (List ℕ)). IsPacking r.state.id packed.endpoint list packed.datagrams) are packed.packed) in
      subst (All (λ (o : Outgoing). AreBytes o.bytes)) (sym packed.sends_are)
      (All-map (λ (o : Outgoing). AreBytes o.bytes)
      (λ (bytes : List ℕ). let o : Outgoing = record { endpoint = packed.endpoint; to = packed.to; bytes = bytes } in o) packed.datagrams
      (read_bytes r.state.id packed.endpoint tlvs packed.datagrams read))
    where
      spelled : (packed.tlvs ≡ map (λ a. a.tlv) r.answers) ⊎ (packed.tlvs ≡ spelling (tlv_of (NetworkState r.state.net [])) ∷ []) → AreSpelled packed.tlvs
      spelled (inl from) = subst AreSpelled (sym from) (answers_spelled r.answers answers)
      spelled (inr state) =
          let tlv : PlainTlv = tlv_of (NetworkState r.state.net []) in
          subst AreSpelled (sym state) (tlv ∷ [], refl, All-cons IsTlv tlv [] (network_tlv r.state.net hash) (All-nil IsTlv))

pub each_bytes : ChangesKeepHashed → AnswerLaws → PackingIsRead → ChangesKeepBytes
each_bytes keeps laws packing tlvs (AddAnswer about i) r is (hashed, bytes) =
    let one : IsTlv (tlv_of i) = answer_tlv laws about r.state i hashed is in (
      keeps tlvs (AddAnswer about i) r is hashed,
      record {
        answers = cond_both (is_answered about r.answers) r.answers _ (All IsSpelled) (λ _. bytes.answers)
            (λ _. All-push IsSpelled r.answers (record { subject = about; tlv = spelling (tlv_of i) }) bytes.answers (tlv_of i, one, refl));
        sends = bytes.sends;
      },
    )
each_bytes keeps laws packing tlvs (AddSends sends) r is (hashed, bytes) = (
  keeps tlvs (AddSends sends) r is hashed,
  record {
    answers = bytes.answers;
    sends = All-append (λ (o : Outgoing). AreBytes o.bytes) r.done.sends sends bytes.sends (sends_bytes laws.read.of_bytes packing r sends hashed.hash bytes.answers is);
  },
)
each_bytes keeps laws packing tlvs ForgetAnswers r is (hashed, bytes) = (hashed, record { answers = All-nil IsSpelled; sends = bytes.sends })
each_bytes keeps laws packing tlvs c r is (hashed, bytes) = (keeps tlvs c r is hashed, record { answers = bytes.answers; sends = bytes.sends })
