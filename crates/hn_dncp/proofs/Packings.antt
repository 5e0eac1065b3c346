-- Packings of one list of TLVs.
use Rattle.hn_base.proofs.Names.{◌≡◌, ◌<◌, ◌≤◌, ◌+◌, ◌∙◌, ℕ, zero, suc, List, [], ◌∷◌, ◌++◌, length, map, take, drop, get_or, inl, inr, ap, refl, sym, subst, arith, length-append, concat}
use Rattle.hn_base.proofs.Names.{AllByRecursion, append-nil, take-append-drop, Contains-append_left, Contains-append_right, All-append, recursion_from_All, concat-append, cases_lt, IsByte}
use Rattle.hn_dncp.proofs.Names.{NodeId, EpId, spelling, sender_tlv, datagram_of, IsFullBefore, IsFilled, IsPacking}
use Rattle.std.specs.List.{All}
use Rattle.hn_tlv.specs.Grammar.{PlainTlv, IsTlv, IsTlvList}
use Rattle.hn_typed.specs.Fields.{word}
use Rattle.hn_dncp.specs.Packing.{IsShortDatagram, AreRead}
use Rattle.hn_base.proofs.BigEndian.{number_bytes}
use Rattle.hn_base.proofs.FrontOfList.{same_parts}

same_cons : {A : Type 0} (x y : A) (xs ys : List A) → x ≡ y → xs ≡ ys → x ∷ xs ≡ y ∷ ys
same_cons x y xs ys first others = ap (λ z. z ∷ xs) first ∙ ap (λ zs. y ∷ zs) others

module _ (own : NodeId) (endpoint : EpId) where
  -- a datagram is filled with the first n of the TLVs, and others hold those after them
  pub packing_more : (tlvs : List (List ℕ)) (n : ℕ) (datagram : List ℕ) (rest : List (List ℕ))
      → IsFilled own endpoint (take n tlvs) (drop n tlvs) datagram → IsPacking own endpoint (drop n tlvs) rest → IsPacking own endpoint tlvs (datagram ∷ rest)
  packing_more tlvs n datagram rest filled packing =
      (take n tlvs, drop n tlvs, sym (take-append-drop n tlvs), filled, packing)

  length_datagram : (tlvs : List (List ℕ)) → length (datagram_of own endpoint tlvs) ≡ 12 + length (concat tlvs)
  length_datagram tlvs = omega arith

  -- ---- the length of a datagram

  short : (group rest : List (List ℕ)) (datagram : List ℕ) → IsFilled own endpoint group rest datagram → IsShortDatagram (group ++ rest) datagram
  short group rest datagram filled = elim filled.within [ inl one ↦ alone group one filled.datagram_is | inr small ↦ inl small ]
    where
      alone : (group : List (List ℕ)) → length group ≡ 1 → datagram ≡ datagram_of own endpoint group → IsShortDatagram (group ++ rest) datagram
      alone [] one is = absurd (omega arith)
      alone (tlv ∷ []) one is =
          inr (tlv, Contains-append_left (tlv ∷ []) rest tlv (0, omega arith, refl), ap length is ∙ length_datagram (tlv ∷ []) ∙ ap (λ (bytes : List ℕ). 12 + length bytes) (append-nil tlv))
      alone (tlv ∷ other ∷ others) one is = absurd (omega arith)

  shorter : (group rest : List (List ℕ)) (datagram : List ℕ) → IsShortDatagram rest datagram → IsShortDatagram (group ++ rest) datagram
  shorter group rest datagram (inl small) = inl small
  shorter group rest datagram (inr (tlv, there, is)) = inr (tlv, Contains-append_right group rest tlv there, is)

  -- each datagram of a packing is short
  pub packing_short : (tlvs datagrams : List (List ℕ)) → IsPacking own endpoint tlvs datagrams → All (IsShortDatagram tlvs) datagrams
  packing_short tlvs [] packing k d within = absurd (omega arith)
  packing_short tlvs (datagram ∷ datagrams) packing zero d within =
      subst (λ all. IsShortDatagram all datagram) (sym packing.2) (short packing.0 packing.1 datagram packing.3)
  packing_short tlvs (datagram ∷ datagrams) packing (suc k) d within =
      subst (λ all. IsShortDatagram all (get_or datagrams k d)) (sym packing.2) (shorter packing.0 packing.1 (get_or datagrams k d) (packing_short packing.1 datagrams packing.4 k d (omega arith)))

  pub packing_not_empty : (tlvs datagrams : List (List ℕ)) → IsPacking own endpoint tlvs datagrams → 0 < length tlvs → 0 < length datagrams
  packing_not_empty tlvs [] packing some = absurd (let none = ap length packing in omega (arith, none, some))
  packing_not_empty tlvs (datagram ∷ datagrams) packing some = omega arith

  -- ---- there is one packing at most

  -- of two fronts of one list the longer one goes on with a part of what the shorter one leaves
  pub record GoesOn (group rest group' rest' : List (List ℕ)) : Type 0 where
    pub next : List ℕ
    pub others : List (List ℕ)
    pub group_is : group' ≡ group ++ next ∷ others
    pub rest_is : rest ≡ next ∷ (others ++ rest')

  goes_on : (group rest group' rest' : List (List ℕ)) → group ++ rest ≡ group' ++ rest' → length group < length group' → GoesOn group rest group' rest'
  goes_on group rest [] rest' same less = absurd (omega arith)
  goes_on [] rest (tlv ∷ group') rest' same less = record { next = tlv; others = group'; group_is = refl; rest_is = same }
  goes_on (tlv ∷ group) rest (tlv' ∷ group') rest' same less =
      let head : tlv ≡ tlv' = cc in
      let tail : group ++ rest ≡ group' ++ rest' = cc in
      let more = goes_on group rest group' rest' tail (omega arith) in
      record { next = more.next; others = more.others; group_is = same_cons tlv' tlv group' (group ++ more.next ∷ more.others) (sym head) more.group_is; rest_is = more.rest_is }

  not_shorter : (group rest group' rest' : List (List ℕ)) (datagram datagram' : List ℕ) → group ++ rest ≡ group' ++ rest'
      → IsFilled own endpoint group rest datagram → IsFilled own endpoint group' rest' datagram' → length group' ≤ length group
  not_shorter group rest group' rest' datagram datagram' same filled filled' =
      elim (cases_lt (length group) (length group')) [ inl less ↦ absurd (too_long less) | inr past ↦ past ]
    where
      too_long : length group < length group' → ⊥
      too_long less =
          let more = goes_on group rest group' rest' same less in
          let full : IsFullBefore (more.next ∷ (more.others ++ rest')) (length datagram) = subst (λ others. IsFullBefore others (length datagram)) more.rest_is filled.full in
          let parts : length (concat group') ≡ length (concat group) + length (more.next ++ concat more.others) =
          ap (λ tlvs. length (concat tlvs)) more.group_is ∙ ap length (concat-append group (more.next ∷ more.others)) ∙ length-append (concat group) (more.next ++ concat more.others) in
          let parts' = length-append more.next (concat more.others) in
          let len : length datagram ≡ 12 + length (concat group) = ap length filled.datagram_is ∙ length_datagram group in
          let len' : length datagram' ≡ 12 + length (concat group') = ap length filled'.datagram_is ∙ length_datagram group' in
          let some = filled.not_empty in
          elim filled'.within [ inl one ↦ omega arith | inr small ↦ omega arith ]

  no_group : (tlvs group rest : List (List ℕ)) → tlvs ≡ [] → tlvs ≡ group ++ rest → 0 < length group → ⊥
  no_group tlvs [] rest none is some = omega arith
  no_group tlvs (tlv ∷ group) rest none is some = cc

  -- two packings of one list are the same
  pub same_packing : (tlvs a b : List (List ℕ)) → IsPacking own endpoint tlvs a → IsPacking own endpoint tlvs b → a ≡ b
  same_packing tlvs [] [] p q = refl
  same_packing tlvs [] (e ∷ es) p q = absurd (no_group tlvs q.0 q.1 p q.2 q.3.not_empty)
  same_packing tlvs (d ∷ ds) [] p q = absurd (no_group tlvs p.0 p.1 q p.2 p.3.not_empty)
  same_packing tlvs (d ∷ ds) (e ∷ es) p q =
      let same : p.0 ++ p.1 ≡ q.0 ++ q.1 = sym p.2 ∙ q.2 in
      let down = not_shorter p.0 p.1 q.0 q.1 d e same p.3 q.3 in
      let up = not_shorter q.0 q.1 p.0 p.1 e d (sym same) q.3 p.3 in
      let long : length p.0 ≡ length q.0 = omega arith in
      let parts = same_parts p.0 q.0 p.1 q.1 long same in
      let groups : p.0 ≡ q.0 = parts.0 in
      let rests : p.1 ≡ q.1 = parts.1 in
      let firsts : d ≡ e = p.3.datagram_is ∙ ap (datagram_of own endpoint) groups ∙ sym q.3.datagram_is in
      let others : ds ≡ es = same_packing p.1 ds es p.4 (subst (λ rest. IsPacking own endpoint rest es) (sym rests) q.4) in
      same_cons d e ds es firsts others

  -- ---- what was packed is read

  record Parted (tlvs : List PlainTlv) (group rest : List (List ℕ)) : Type 0 where
    pub front : List PlainTlv
    pub back : List PlainTlv
    pub parts : tlvs ≡ front ++ back
    pub group_is : group ≡ map spelling front
    pub rest_is : rest ≡ map spelling back

  parted : (tlvs : List PlainTlv) (group rest : List (List ℕ)) → map spelling tlvs ≡ group ++ rest → Parted tlvs group rest
  parted tlvs [] rest same = record { front = []; back = tlvs; parts = refl; group_is = refl; rest_is = sym same }
  parted [] (bytes ∷ group) rest same = absurd cc
  parted (tlv ∷ tlvs) (bytes ∷ group) rest same =
      let head : bytes ≡ spelling tlv = cc in
      let tail : map spelling tlvs ≡ group ++ rest = cc in
      let more = parted tlvs group rest tail in
      record {
        front = tlv ∷ more.front;
        back = more.back;
        parts = same_cons tlv tlv tlvs (more.front ++ more.back) refl more.parts;
        group_is = same_cons bytes (spelling tlv) group (map spelling more.front) head more.group_is;
        rest_is = more.rest_is;
      }

  both_parts : (front back : List PlainTlv) → AllByRecursion IsTlv (front ++ back) → AllByRecursion IsTlv front × AllByRecursion IsTlv back
  both_parts [] back all = (tt, all)
  both_parts (tlv ∷ front) back all =
      let more = both_parts front back all.1 in
      ((all.0, more.0), more.1)

  listed : (tlvs : List PlainTlv) → AllByRecursion IsTlv tlvs → IsTlvList tlvs (concat (map spelling tlvs))
  listed [] all = refl
  listed (tlv ∷ tlvs) all = (concat (map spelling tlvs), all.0, refl, listed tlvs all.1)

  IsTlv-sender_tlv : IsTlv (sender_tlv own endpoint)
  IsTlv-sender_tlv = record {
    kind_fits = omega arith;
    length_fits = omega arith;
    bytes = All-append IsByte (word own.0) (word endpoint.0) (number_bytes 4 own.0) (number_bytes 4 endpoint.0);
  }

  read : (tlvs : List PlainTlv) (datagrams : List (List ℕ)) → AllByRecursion IsTlv tlvs → IsPacking own endpoint (map spelling tlvs) datagrams → AreRead own endpoint tlvs datagrams
  read [] [] all packing = refl
  read (tlv ∷ tlvs) [] all packing = absurd cc
  read tlvs (datagram ∷ datagrams) all packing =
      let to = parted tlvs packing.0 packing.1 packing.2 in
      let are = both_parts to.front to.back (subst (AllByRecursion IsTlv) to.parts all) in (
        to.front,
        to.back,
        to.parts,
        (concat packing.0, IsTlv-sender_tlv, packing.3.datagram_is, subst (λ group. IsTlvList to.front (concat group)) (sym to.group_is) (listed to.front are.0)),
        read to.back datagrams are.1 (subst (λ rest. IsPacking own endpoint rest datagrams) to.rest_is packing.4),
      )

  -- the datagrams of a packing are lists of TLVs
  pub packing_read : (tlvs : List PlainTlv) (datagrams : List (List ℕ)) → All IsTlv tlvs → IsPacking own endpoint (map spelling tlvs) datagrams → AreRead own endpoint tlvs datagrams
  packing_read tlvs datagrams all packing = read tlvs datagrams (recursion_from_All IsTlv tlvs all) packing
