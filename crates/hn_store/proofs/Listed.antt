-- Whether bytes are a list of TLVs, and whether a hash is theirs.
use Rattle.hn_base.proofs.Names.{◌<◌, ◌≤◌, ◌⊎◌, ◌^◌, ℕ, inl, inr, List, [], ◌∷◌, arith, All, cases_lt, All-nil, All-cons, All-head, All-tail, IsByte}
use Rattle.hn_store.proofs.Names.{HasTlvs, FirstFault}
use Rattle.hn_tlv.specs.Laws.{ListIsOfBytes, ListHasNoFirstFault, ListOrFirstFault}

-- a fact that does not fail holds, where it holds or fails
pub not_not : (P : Type 0) → P ⊎ (¬ P) → ¬ (¬ P) → P
not_not P (inl holds) fails = holds
not_not P (inr not) fails = absurd (fails not)

bytes_or_not : (bytes : List ℕ) → All IsByte bytes ⊎ (¬ (All IsByte bytes))
bytes_or_not [] = inl (All-nil IsByte)
bytes_or_not (byte ∷ bytes) = by_cases (cases_lt byte (2 ^ 8)) (bytes_or_not bytes)
  where
    by_cases : (byte < 2 ^ 8) ⊎ (2 ^ 8 ≤ byte) → All IsByte bytes ⊎ (¬ (All IsByte bytes)) → All IsByte (byte ∷ bytes) ⊎ (¬ (All IsByte (byte ∷ bytes)))
    by_cases (inl fits) (inl all) = inl (All-cons IsByte byte bytes fits all)
    by_cases (inl fits) (inr not) = inr (λ all. not (All-tail IsByte byte bytes all))
    by_cases (inr past) more = inr (λ all. let fits : byte < 2 ^ 8 = All-head IsByte byte bytes all in omega arith)

-- bytes are a list of TLVs or not
pub listed_or_not : ListIsOfBytes → ListOrFirstFault → ListHasNoFirstFault → (bytes : List ℕ) → HasTlvs bytes ⊎ (¬ (HasTlvs bytes))
listed_or_not of_bytes reads no_list bytes = by_bytes (bytes_or_not bytes)
  where
    by_reading : HasTlvs bytes ⊎ ((place why : ℕ) × FirstFault bytes place why) → HasTlvs bytes ⊎ (¬ (HasTlvs bytes))
    by_reading (inl list) = inl list
    by_reading (inr (place, why, fault)) = inr (no_list bytes place why fault)

    by_bytes : All IsByte bytes ⊎ (¬ (All IsByte bytes)) → HasTlvs bytes ⊎ (¬ (HasTlvs bytes))
    by_bytes (inl all) = by_reading (reads bytes all)
    by_bytes (inr not) = inr (λ (tlvs, list). not (of_bytes tlvs bytes list))
