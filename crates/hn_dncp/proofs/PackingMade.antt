-- A packing of each list of TLVs: a datagram takes one after another, as long as it stays within 4,000 bytes.
use Rattle.hn_base.proofs.Names.{◌≡◌, ◌⊎◌, ◌<◌, ◌≤◌, ◌+◌, ◌∙◌, ℕ, List, [], ◌∷◌, ◌++◌, length, inl, inr, refl, ap, subst, append_assoc, arith, length-append, concat, append-nil, concat-append}
use Rattle.hn_base.proofs.Names.{cases_lt}
use Rattle.hn_dncp.proofs.Names.{NodeId, EpId, datagram_of, IsFullBefore, IsFilled, IsPacking}

module _ (own : NodeId) (endpoint : EpId) where
  -- a group that a datagram may hold
  record IsGroup (group : List (List ℕ)) : Type 0 where
    not_empty : 0 < length group
    within : (length group ≡ 1) ⊎ (length (datagram_of own endpoint group) ≤ 4000)

  filled : (group rest : List (List ℕ)) → IsGroup group → IsFullBefore rest (length (datagram_of own endpoint group)) → IsFilled own endpoint group rest (datagram_of own endpoint group)
  filled group rest is full = record { datagram_is = refl; not_empty = is.not_empty; within = is.within; full = full }

  alone : (tlv : List ℕ) → IsGroup (tlv ∷ [])
  alone tlv = record { not_empty = omega arith; within = inl (omega arith) }

  length_more : (group : List (List ℕ)) (tlv : List ℕ) → length (datagram_of own endpoint (group ++ tlv ∷ [])) ≡ length (datagram_of own endpoint group) + length tlv
  length_more group tlv =
      let more : length (concat (group ++ tlv ∷ [])) ≡ length (concat group) + length tlv =
      ap length (concat-append group (tlv ∷ []) ∙ ap (λ (bytes : List ℕ). concat group ++ bytes) (append-nil tlv)) ∙ length-append (concat group) tlv
      in
      omega arith

  one_more : (group : List (List ℕ)) (tlv : List ℕ) → length (datagram_of own endpoint group) + length tlv ≤ 4000 → IsGroup (group ++ tlv ∷ [])
  one_more group tlv small = record {
    not_empty = omega (arith, length-append group (tlv ∷ []));
    within = inr (omega (arith, length_more group tlv));
  }

  -- a datagram with a group goes on with the TLVs after it
  packed : (group rest : List (List ℕ)) → IsGroup group → (datagrams : List (List ℕ)) × IsPacking own endpoint (group ++ rest) datagrams
  packed group [] is = (datagram_of own endpoint group ∷ [], (group, [], refl, filled group [] is tt, refl))
  packed group (tlv ∷ rest) is = next (cases_lt 4000 (length (datagram_of own endpoint group) + length tlv)) (packed (tlv ∷ []) rest (alone tlv)) (packed (group ++ tlv ∷ []) rest)
    where
      next : (4000 < length (datagram_of own endpoint group) + length tlv) ⊎ (length (datagram_of own endpoint group) + length tlv ≤ 4000)
          → (others : List (List ℕ)) × IsPacking own endpoint (tlv ∷ rest) others
          → (IsGroup (group ++ tlv ∷ []) → (datagrams : List (List ℕ)) × IsPacking own endpoint ((group ++ tlv ∷ []) ++ rest) datagrams)
          → (datagrams : List (List ℕ)) × IsPacking own endpoint (group ++ tlv ∷ rest) datagrams
      next (inl full) (others, packing) longer = (datagram_of own endpoint group ∷ others, (group, tlv ∷ rest, refl, filled group (tlv ∷ rest) is full, packing))
      next (inr small) others longer =
          subst (λ (tlvs : List (List ℕ)). (datagrams : List (List ℕ)) × IsPacking own endpoint tlvs datagrams) (append_assoc group (tlv ∷ []) rest) (longer (one_more group tlv small))

  pub packing_made : (tlvs : List (List ℕ)) → (datagrams : List (List ℕ)) × IsPacking own endpoint tlvs datagrams
  packing_made [] = ([], refl)
  packing_made (tlv ∷ tlvs) = packed (tlv ∷ []) tlvs (alone tlv)
