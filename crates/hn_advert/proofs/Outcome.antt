-- The one thing that stands at the beginning of some bytes, as a function: nothing, an option and what follows it, or a
-- fault. Each relation agrees with it, so no two of them hold of the same bytes.
use Rattle.hn_base.proofs.Names.{◌≡◌, ℕ, ◌+◌, ◌-◌, ◌*◌, ◌<◌, ◌≤◌, true, false, cond, eqb, ltb, List, [], ◌∷◌, ◌++◌, length, get_or, take, drop, refl, ap, ◌∙◌, arith, inl, inr, w32, w128, to_be_bytes}
use Rattle.hn_base.proofs.Names.{from_be_bytes, lt-ltb, le-ltb, eq-eqb, ne_eqb, take_at, drop_at, get_or-take, get_or-drop, from_be_bytes-to_be_bytes_4}
use Rattle.hn_advert.proofs.Names.{length-append, NdOption, PrefixOption, OtherOption, IsNdOption, option_bytes, HasWholeOption, IsOptionFault}
use Rattle.hn_base.proofs.BigEndian.{number_again}
use Rattle.hn_base.proofs.BeginningOfBytes.{Outcome, Ends, Begins, Faults, IsTold}
use Rattle.hn_advert.specs.Layout.{PrefixInformation, IsPrefixInformation}
use Rattle.hn_advert.specs.Fault.{IsOptionCut, HasOtherSize, HasLongPrefix}

-- the fields of a Prefix Information option, after its type and length
information : List ℕ → PrefixInformation
information body = record {
  prefix_len = get_or body 0 0;
  flags = get_or body 1 0;
  valid = from_be_bytes w32 (take 4 (drop 2 body));
  preferred = from_be_bytes w32 (take 4 (drop 6 body));
  reserved = from_be_bytes w32 (take 4 (drop 10 body));
  address = from_be_bytes w128 (drop 14 body);
}

prefix : List ℕ → List ℕ → Outcome NdOption
prefix body rest = cond (ltb 128 (get_or body 0 0)) (Faults 2 6) (Begins (PrefixOption (information body)) rest)

-- a whole option, of this type and length
whole : ℕ → ℕ → List ℕ → List ℕ → Outcome NdOption
whole kind units body rest = cond (eqb kind 3) (cond (eqb units 4) (prefix body rest) (Faults 0 5)) (Begins (OtherOption kind units body) rest)

-- an option of this type and length, and all that follows these two
sized : ℕ → ℕ → List ℕ → Outcome NdOption
sized kind units after =
    cond (eqb units 0) (Faults 0 4) (cond (ltb (2 + length after) (8 * units)) (Faults 0 4) (whole kind units (take (8 * units - 2) after) (drop (8 * units - 2) after)))

pub outcome : List ℕ → Outcome NdOption
outcome [] = Ends
outcome (kind ∷ []) = Faults 0 4
outcome (kind ∷ units ∷ after) = sized kind units after

-- ---- options

sized_whole : (kind units : ℕ) (body rest : List ℕ) → 0 < units → 2 + length body ≡ 8 * units → sized kind units (body ++ rest) ≡ whole kind units body rest
unfolding sized
sized_whole kind units body rest some size =
    let nonzero : eqb units 0 ≡ false = ne_eqb units 0 (omega arith) in
    let within : ltb (2 + length (body ++ rest)) (8 * units) ≡ false = le-ltb _ _ (omega (arith, length-append body rest)) in
    let len : length body ≡ 8 * units - 2 = omega arith in
    rw (nonzero, within, take_at body rest (8 * units - 2) len, drop_at body rest (8 * units - 2) len) refl

outcome_other : (kind units : ℕ) (body rest : List ℕ) → IsNdOption (OtherOption kind units body) → outcome (kind ∷ units ∷ (body ++ rest)) ≡ Begins (OtherOption kind units body) rest
unfolding outcome whole
outcome_other kind units body rest (other, some, size) = sized_whole kind units body rest some size ∙ rw (ne_eqb kind 3 other) refl

-- the 30 bytes after type and length
abbrev body_of : PrefixInformation → List ℕ
body_of p = p.prefix_len ∷ p.flags ∷ to_be_bytes w32 p.valid ++ to_be_bytes w32 p.preferred ++ to_be_bytes w32 p.reserved ++ to_be_bytes w128 p.address

information_again : (p : PrefixInformation) → IsPrefixInformation p → information (body_of p) ≡ p
unfolding information
information_again p fits =
    rw (
      from_be_bytes-to_be_bytes_4 p.valid fits.valid,
      from_be_bytes-to_be_bytes_4 p.preferred fits.preferred,
      from_be_bytes-to_be_bytes_4 p.reserved fits.reserved,
      number_again p.address fits.address,
    ) refl

outcome_prefix : (p : PrefixInformation) (rest : List ℕ) → IsPrefixInformation p → outcome (option_bytes (PrefixOption p) ++ rest) ≡ Begins (PrefixOption p) rest
unfolding outcome whole prefix
outcome_prefix p rest fits =
    let short : ltb 128 p.prefix_len ≡ false = le-ltb 128 p.prefix_len fits.prefix_len in
    sized_whole 3 4 (body_of p) rest (omega arith) refl ∙ rw short (ap (λ (q : PrefixInformation). Begins (PrefixOption q) rest) (information_again p fits))

outcome_option : (option : NdOption) (rest : List ℕ) → IsNdOption option → outcome (option_bytes option ++ rest) ≡ Begins option rest
outcome_option (PrefixOption p) rest fits = outcome_prefix p rest fits
outcome_option (OtherOption kind units body) rest fits = outcome_other kind units body rest fits

outcome_nothing : outcome [] ≡ Ends
unfolding outcome
outcome_nothing = refl

-- ---- faults

sized_cut : (kind units : ℕ) (after : List ℕ) → 2 + length after < 8 * units → sized kind units after ≡ Faults 0 4
unfolding sized
sized_cut kind units after short =
    let nonzero : eqb units 0 ≡ false = ne_eqb units 0 (omega arith) in
    let cut : ltb (2 + length after) (8 * units) ≡ true = lt-ltb _ _ short in
    rw (nonzero, cut) refl

sized_none : (kind units : ℕ) (after : List ℕ) → units ≡ 0 → sized kind units after ≡ Faults 0 4
unfolding sized
sized_none kind units after none = rw (eq-eqb units 0 none) refl

sized_within : (kind units : ℕ) (after : List ℕ) → 0 < units → 8 * units ≤ 2 + length after → sized kind units after ≡ whole kind units (take (8 * units - 2) after) (drop (8 * units - 2) after)
unfolding sized
sized_within kind units after some within =
    let nonzero : eqb units 0 ≡ false = ne_eqb units 0 (omega arith) in
    let not_cut : ltb (2 + length after) (8 * units) ≡ false = le-ltb _ _ within in
    rw (nonzero, not_cut) refl

outcome_whole : (bytes : List ℕ) (kind : ℕ) → HasWholeOption bytes kind
    → outcome bytes ≡ whole kind (get_or bytes 1 0) (take (8 * get_or bytes 1 0 - 2) (drop 2 bytes)) (drop (8 * get_or bytes 1 0 - 2) (drop 2 bytes))
unfolding outcome
outcome_whole [] kind has = let none = has.two in absurd (omega arith)
outcome_whole (k ∷ []) kind has = let none = has.two in absurd (omega arith)
outcome_whole (k ∷ units ∷ after) kind has = let within : 8 * units ≤ 2 + length after = omega (arith, has.within) in rw (← has.of_kind) (sized_within k units after has.not_empty within)

outcome_cut : (bytes : List ℕ) → IsOptionCut bytes → outcome bytes ≡ Faults 0 4
unfolding outcome
outcome_cut [] cut = let some = cut.0 in absurd (omega arith)
outcome_cut (kind ∷ []) cut = refl
outcome_cut (kind ∷ units ∷ after) (some, inl one) = absurd (omega (arith, one))
outcome_cut (kind ∷ units ∷ after) (some, inr (inl none)) = sized_none kind units after none
outcome_cut (kind ∷ units ∷ after) (some, inr (inr short)) = sized_cut kind units after (omega (arith, short))

outcome_size : (bytes : List ℕ) → HasOtherSize bytes → outcome bytes ≡ Faults 0 5
unfolding whole
outcome_size bytes (has, other) = outcome_whole bytes 3 has ∙ rw (ne_eqb (get_or bytes 1 0) 4 other) refl

outcome_long : (bytes : List ℕ) → HasLongPrefix bytes → outcome bytes ≡ Faults 2 6
unfolding whole prefix
outcome_long bytes (has, units, long) =
    let first : get_or (take 30 (drop 2 bytes)) 0 0 ≡ get_or bytes 2 0 = get_or-take 30 (drop 2 bytes) 0 0 (omega arith) ∙ get_or-drop 2 bytes 0 0 in
    let above : ltb 128 (get_or (take 30 (drop 2 bytes)) 0 0) ≡ true = lt-ltb 128 _ (omega (arith, first, long)) in
    outcome_whole bytes 3 has ∙ rw (units, above) refl

at_place : (bytes : List ℕ) (offset place why cause : ℕ) → outcome bytes ≡ Faults offset why → place ≡ offset → cause ≡ why → outcome bytes ≡ Faults place cause
at_place bytes offset place why cause e p w = rw (p, w) e

outcome_fault : (bytes : List ℕ) (offset why : ℕ) → IsOptionFault bytes offset why → outcome bytes ≡ Faults offset why
outcome_fault bytes offset why (inl fault) = at_place bytes 0 offset 4 why (outcome_cut bytes fault.1) fault.2 fault.0
outcome_fault bytes offset why (inr (inl fault)) = at_place bytes 0 offset 5 why (outcome_size bytes fault.1) fault.2 fault.0
outcome_fault bytes offset why (inr (inr fault)) = at_place bytes 2 offset 6 why (outcome_long bytes fault.1) fault.2 fault.0

pub option_told : IsTold option_bytes IsNdOption IsOptionFault outcome
option_told = record { nothing = outcome_nothing; begins = outcome_option; faults = outcome_fault }
