-- Bytes are an advertisement, or they have a fault.
use Rattle.hn_base.proofs.Names.{◌≡◌, ℕ, zero, suc, ◌+◌, ◌*◌, ◌<◌, ◌≤◌, ◌⊎◌, not, eqb, bit_and, List, [], ◌∷◌, ◌++◌, length, get_or, take, drop, Option, None, refl, ap, ◌∙◌, arith, inl, inr, w128}
use Rattle.hn_base.proofs.Names.{from_be_bytes, cons_option, cases_lt, cases_eq, get_or-take, get_or-append-add, recursion_from_All, IsByte}
use Rattle.hn_advert.proofs.Names.{length-append, Info, Advert, Fixed, NdOption, PrefixOption, OtherOption, option_bytes, IsAdvert, HasWholeOption, IsOptionFault, IsFirstOptionFault, AdvertFault}
use Rattle.hn_advert.proofs.Names.{HasHeaderFirst, HasOptionFirst, HasInfos, AreOctets, octets}
use Rattle.std.proofs.Common.{All}
use Rattle.hn_advert.specs.Fault.{units_of}
use Rattle.hn_advert.proofs.Fields.{octets_front, octets_after, flags_in, header_begins, prefix_begins, other_begins, fixed_in}
use Rattle.hn_advert.proofs.Steps.{advert_of_parts, has_fault, infos_cons, fault_cons}

-- ---- one option

-- an option begins the bytes, or they have a fault there
abbrev BeginsOrFaults : List ℕ → Type 0
BeginsOrFaults bytes = ((info : Option Info) × (rest : List ℕ) × HasOptionFirst bytes info rest) ⊎ ((offset why : ℕ) × IsOptionFault bytes offset why)

total_prefix : (bytes : List ℕ) → AreOctets bytes → HasWholeOption bytes 3 → units_of bytes ≡ 4 → BeginsOrFaults bytes
total_prefix bytes fits has units =
    let tail : List ℕ = drop 16 bytes in
    let len : get_or (take 16 bytes) 2 0 ≡ get_or bytes 2 0 = get_or-take 16 bytes 2 0 (omega arith) in
    elim (cases_lt 128 (get_or bytes 2 0)) [
      | inl long ↦ inr (2, 6, inr (inr (refl, (has, units, long), refl)))
      | inr short ↦ inl (
        _,
        _,
        prefix_begins bytes (take 16 bytes) tail (take 16 tail) (drop 16 tail) (from_be_bytes w128 (take 16 tail)) fits
            (omega (arith, has.within, units)) has.of_kind units refl refl refl refl refl (omega (arith, len, short)),
      )
    ]

total_whole : (bytes : List ℕ) → AreOctets bytes → 2 ≤ length bytes → 0 < units_of bytes → 8 * units_of bytes ≤ length bytes → BeginsOrFaults bytes
total_whole bytes fits two some within =
    elim (cases_eq (get_or bytes 0 0) 3) [
      | inl kind ↦
          let has : HasWholeOption bytes 3 = record { two = two; not_empty = some; within = within; of_kind = kind } in
          elim (cases_eq (units_of bytes) 4) [
            | inl units ↦ total_prefix bytes fits has units
            | inr other ↦ inr (0, 5, inr (inl (refl, (has, other), refl)))
          ]
      | inr other ↦ inl (None, drop (8 * units_of bytes) bytes, other_begins bytes (8 * units_of bytes) two other (omega arith) within refl)
    ]

total_option : (bytes : List ℕ) → AreOctets bytes → 0 < length bytes → BeginsOrFaults bytes
total_option bytes fits some =
    elim (cases_lt (length bytes) 2) [
      | inl one ↦ inr (0, 4, inl (refl, (some, inl one), refl))
      | inr two ↦
          elim (cases_eq (units_of bytes) 0) [
            | inl none ↦ inr (0, 4, inl (refl, (some, inr (inl none)), refl))
            | inr nonzero ↦
                elim (cases_lt (length bytes) (8 * units_of bytes)) [
                  | inl short ↦ inr (0, 4, inl (refl, (some, inr (inr short)), refl))
                  | inr within ↦ total_whole bytes fits two (omega arith) within
                ]
          ]
    ]

-- ---- all options

option_size : (o : NdOption) → 2 ≤ length (option_bytes o)
option_size (PrefixOption p) = omega arith
option_size (OtherOption kind units body) = omega arith

octets_rest : (bytes front rest : List ℕ) → AreOctets bytes → bytes ≡ front ++ rest → AreOctets rest
octets_rest bytes front rest fits parts i =
    let same : get_or bytes (length front + i) 0 ≡ get_or rest i 0 = ap (λ (z : List ℕ). get_or z (length front + i) 0) parts ∙ get_or-append-add front rest i 0 in
    omega (arith, same, fits (length front + i))

abbrev HasInfosOrFault : List ℕ → Type 0
HasInfosOrFault bytes = ((infos : List Info) × HasInfos bytes infos) ⊎ ((place why : ℕ) × IsFirstOptionFault bytes place why)

total_more : (bytes rest : List ℕ) (info : Option Info) → HasOptionFirst bytes info rest → HasInfosOrFault rest → HasInfosOrFault bytes
total_more bytes rest info b (inl (infos, o)) = inl (cons_option info infos, infos_cons bytes rest info infos b o)
total_more bytes rest info b (inr (place, why, f)) = inr (length (option_bytes b.option) + place, why, fault_cons bytes rest info place why b f)

total_options : (n : ℕ) (bytes : List ℕ) → length bytes ≤ n → AreOctets bytes → HasInfosOrFault bytes
total_options n [] few fits = inl ([], record { options = []; fit = tt; parts = refl; infos_are = refl })
total_options zero (b ∷ bs) few fits = absurd (omega arith)
total_options (suc n) (b ∷ bs) few fits =
    elim (total_option (b ∷ bs) fits (omega arith)) [
      | inl (info, rest, begins) ↦
          let parts : b ∷ bs ≡ option_bytes begins.option ++ rest = begins.parts in
          let sizes : suc (length bs) ≡ length (option_bytes begins.option) + length rest = ap length parts ∙ length-append (option_bytes begins.option) rest in
          let fewer : length rest ≤ n = omega (arith, option_size begins.option) in
          total_more (b ∷ bs) rest info begins (total_options n rest fewer (octets_rest (b ∷ bs) (option_bytes begins.option) rest fits parts))
      | inr (offset, why, fault) ↦
          inr (
            offset,
            why,
            record {
              options = [];
              rest = b ∷ bs;
              offset = offset;
              options_fit = tt;
              parts = refl;
              fault = fault;
              place_is = omega arith;
            },
          )
    ]

-- ---- the message

-- an advertisement, or a fault
abbrev AdvertOrFault : List ℕ → Type 0
AdvertOrFault bytes = ((advert : Advert) × IsAdvert bytes advert) ⊎ ((place why : ℕ) × AdvertFault bytes place why)

total_header : (bytes rest : List ℕ) (fixed : Fixed) → HasHeaderFirst bytes fixed rest → HasInfosOrFault rest → AdvertOrFault bytes
total_header bytes rest fixed h (inl (infos, o)) = inl (_, advert_of_parts bytes rest fixed infos h o)
total_header bytes rest fixed h (inr (offset, why, f)) = inr (16 + offset, why, inr (has_fault bytes rest fixed (16 + offset) why h (offset, refl, f)))

total_message : (bytes : List ℕ) → AreOctets bytes → 16 ≤ length bytes → get_or bytes 0 0 ≡ 134 → get_or bytes 1 0 ≡ 0 → AdvertOrFault bytes
total_message bytes fits long kind code =
    let fs : List ℕ = take 16 bytes in
    let rest : List ℕ = drop 16 bytes in
    let byte : ℕ = get_or fs 5 0 in
    let fs_kind : get_or fs 0 0 ≡ 134 = get_or-take 16 bytes 0 0 (omega arith) ∙ kind in
    let fs_code : get_or fs 1 0 ≡ 0 = get_or-take 16 bytes 1 0 (omega arith) ∙ code in
    let flags = flags_in byte (octets_front bytes fs 16 fits refl 5) in
    total_header bytes rest (fixed_in fs (not (eqb (bit_and byte 128) 0)) (not (eqb (bit_and byte 64) 0)))
    (header_begins bytes fs rest _ _ fits long fs_kind fs_code refl refl flags) (total_options (length rest) rest (omega arith) (octets_after bytes rest 16 fits refl))

pub advert_or_fault : (bytes : List ℕ) → All IsByte bytes → ((advert : Advert) × IsAdvert bytes advert) ⊎ ((place why : ℕ) × AdvertFault bytes place why)
advert_or_fault bytes all =
    elim (cases_lt (length bytes) 16) [
      | inl short ↦ inr (length bytes, 1, inl (inl (refl, (short, refl))))
      | inr long ↦
          elim (cases_eq (get_or bytes 0 0) 134) [
            | inl kind ↦
                elim (cases_eq (get_or bytes 1 0) 0) [
                  | inl code ↦ total_message bytes (octets bytes (recursion_from_All IsByte bytes all)) long kind code
                  | inr other ↦ inr (1, 3, inl (inr (inr (refl, (long, kind, other, refl)))))
                ]
            | inr other ↦ inr (0, 2, inl (inr (inl (refl, (long, other, refl)))))
          ]
    ]
