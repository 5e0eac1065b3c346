-- The sub-prefix at a place: it is a prefix within the outer one, and what overlaps it leads to a later place.
use Rattle.hn_base.proofs.Names.{◌≡◌, ℕ, ◌+◌, ◌-◌, ◌*◌, ◌/◌, ◌%◌, ◌^◌, ◌<◌, ◌≤◌, ◌↔◌, refl, arith, ap, ◌∙◌, sym, subst, List, get_or, Contains, Contains-get_or, le_refl, div-add-mod, pow_pos, pow-add, mul-le, mod-pow-add, PlainPrefix}
use Rattle.hn_base.proofs.Names.{IsPrefix, IsWithin, Overlaps, last_address}
use Rattle.hn_prefix.proofs.Names.{sub_prefix, sub_prefix_count, next_place}
use Rattle.std.proofs.Math.Nat.{div-mul-le_self, add-mul-mod_self_right}
use Rattle.std.proofs.lemmas.Nat.{le-div, shl-shr}
use Rattle.hn_prefix.specs.Free.{IsSubPrefix, IsPrefixInside, OverlapsAt}
use Rattle.hn_prefix.proofs.InsideAndOverlap.{block_fits, within_range, overlap_range}

-- the place of a sub-prefix
pub record IsPlace (outer : PlainPrefix) (len place : ℕ) : Type 0 where
  pub valid : IsPrefix outer
  pub not_shorter : outer.len ≤ len
  pub len_in_range : len ≤ 128
  pub below_count : place < sub_prefix_count outer len

-- a length splits the bits past a shorter one
split_bits : (short len : ℕ) → short ≤ len → len ≤ 128 → 128 - short ≡ (len - short) + (128 - len)
split_bits short len longer small = omega arith

-- the sub-prefixes share out the addresses of the outer prefix
sizes : (outer : PlainPrefix) (len : ℕ) → outer.len ≤ len → len ≤ 128 → 2 ^ (128 - outer.len) ≡ sub_prefix_count outer len * 2 ^ (128 - len)
sizes outer len longer small =
    ap (λ m. 2 ^ m) (split_bits outer.len len longer small) ∙ pow-add 2 (len - outer.len) (128 - len)

-- one of them ends where its outer prefix does, or before
ends : (outer : PlainPrefix) (len place : ℕ) → IsPlace outer len place → place * 2 ^ (128 - len) + 2 ^ (128 - len) ≤ 2 ^ (128 - outer.len)
ends outer len place at =
    let size = sizes outer len at.not_shorter at.len_in_range in
    let covered : (place + 1) * 2 ^ (128 - len) ≤ sub_prefix_count outer len * 2 ^ (128 - len) = mul-le _ _ _ _ (omega (arith, at.below_count)) (le_refl (2 ^ (128 - len))) in
    omega arith

-- the bits of a prefix are zero past each longer length, too
no_bit_past_longer : (outer : PlainPrefix) (len : ℕ) → IsPrefix outer → outer.len ≤ len → len ≤ 128 → outer.bits % 2 ^ (128 - len) ≡ 0
no_bit_past_longer outer len valid longer small =
    let split : outer.bits % 2 ^ (128 - outer.len) ≡ (outer.bits / 2 ^ (128 - len) % 2 ^ (len - outer.len)) * 2 ^ (128 - len) + outer.bits % 2 ^ (128 - len) =
    ap (λ m. outer.bits % 2 ^ m) (split_bits outer.len len longer small) ∙ mod-pow-add outer.bits (len - outer.len) (128 - len) in
    let none = valid.no_bit_past_len in
    omega arith

pub sub_prefix_is_prefix : (outer : PlainPrefix) (len place : ℕ) → IsPlace outer len place → IsPrefix (sub_prefix outer len place)
sub_prefix_is_prefix outer len place at =
    let outer_ends = block_fits outer.bits (128 - outer.len) 128 (omega arith) at.valid.bits_in_range at.valid.no_bit_past_len in
    let inner_ends = ends outer len place at in
    let some = pow_pos (128 - len) in
    record {
      len_in_range = at.len_in_range;
      bits_in_range = omega arith;
      no_bit_past_len = add-mul-mod_self_right outer.bits place (2 ^ (128 - len)) ∙ no_bit_past_longer outer len at.valid at.not_shorter at.len_in_range;
    }

pub sub_prefix_is_within : (outer : PlainPrefix) (len place : ℕ) → IsPlace outer len place → IsWithin (sub_prefix outer len place) outer
sub_prefix_is_within outer len place at =
    let inner_ends = ends outer len place at in
    (within_range outer (sub_prefix outer len place) at.valid (sub_prefix_is_prefix outer len place at)).1 (omega arith, omega arith)

-- a prefix overlaps the sub-prefix at a place
pub record Blocks (outer blocker : PlainPrefix) (len place : ℕ) : Type 0 where
  pub at : IsPlace outer len place
  pub valid : IsPrefix blocker
  pub overlap : Overlaps blocker (sub_prefix outer len place)

-- the prefix at the place of one that overlaps is a taken one
pub block_at : (taken : List PlainPrefix) (p blocker : PlainPrefix) (at : ℕ) → OverlapsAt taken p at → blocker ≡ get_or taken at blocker
    → Overlaps blocker p × Contains taken blocker
block_at taken p blocker at found is =
    let P : PlainPrefix → Type 0 = λ t. Overlaps t p in
    let Q : PlainPrefix → Type 0 = λ t. Contains taken t in
    (subst P (sym is) (found.overlap blocker), subst Q (sym is) (Contains-get_or taken at blocker found.within))

pub blocked : (outer blocker candidate : PlainPrefix) (len place : ℕ) → IsPlace outer len place → IsPrefix blocker
    → candidate ≡ sub_prefix outer len place → Overlaps blocker candidate → Blocks outer blocker len place
blocked outer blocker candidate len place at valid is overlap =
    let P : PlainPrefix → Type 0 = λ p. Overlaps blocker p in
    record { at = at; valid = valid; overlap = subst P is overlap }

blocked_range : (outer blocker : PlainPrefix) (len place : ℕ) → Blocks outer blocker len place
    → (blocker.bits ≤ last_address (sub_prefix outer len place)) × ((sub_prefix outer len place).bits ≤ last_address blocker)
blocked_range outer blocker len place blocks =
    (overlap_range blocker (sub_prefix outer len place) blocks.valid (sub_prefix_is_prefix outer len place blocks.at)).0 blocks.overlap

-- then it does not end below the outer prefix
pub reaches : (outer blocker : PlainPrefix) (len place : ℕ) → Blocks outer blocker len place → outer.bits ≤ last_address blocker
reaches outer blocker len place blocks =
    let range = blocked_range outer blocker len place blocks in
    omega arith

-- the place after it is a later one
pub later_place : (outer blocker : PlainPrefix) (len place : ℕ) → Blocks outer blocker len place → place < next_place outer len (last_address blocker)
later_place outer blocker len place blocks =
    let range = blocked_range outer blocker len place blocks in
    let reached : place ≤ (last_address blocker - outer.bits) / 2 ^ (128 - len) = le-div place (last_address blocker - outer.bits) (2 ^ (128 - len)) (pow_pos (128 - len)) (omega arith) in
    omega (arith, blocks.at.below_count)

-- and it overlaps each sub-prefix between the two
pub overlaps_between : (outer blocker : PlainPrefix) (len place k : ℕ) → Blocks outer blocker len place → place ≤ k
    → k < next_place outer len (last_address blocker) → Overlaps blocker (sub_prefix outer len k)
overlaps_between outer blocker len place k blocks from_place before =
    let start = blocked_range outer blocker len place blocks in
    let lower : place * 2 ^ (128 - len) ≤ k * 2 ^ (128 - len) = mul-le _ _ _ _ from_place (le_refl (2 ^ (128 - len))) in
    let upper : k * 2 ^ (128 - len) ≤ (last_address blocker - outer.bits) / 2 ^ (128 - len) * 2 ^ (128 - len) = mul-le _ _ _ _ (omega arith) (le_refl (2 ^ (128 - len))) in
    let whole = div-mul-le_self (last_address blocker - outer.bits) (2 ^ (128 - len)) in
    let at : IsPlace outer len k = record { valid = blocks.at.valid; not_shorter = blocks.at.not_shorter; len_in_range = blocks.at.len_in_range; below_count = omega arith } in
    (overlap_range blocker (sub_prefix outer len k) blocks.valid (sub_prefix_is_prefix outer len k at)).1 (omega arith, omega arith)

-- two multiples of a size are so many sizes apart
sizes_apart : (a b size : ℕ) → 0 < size → a % size ≡ 0 → b % size ≡ 0 → a ≤ b → b ≡ a + (b / size - a / size) * size
sizes_apart a b size positive multiple_a multiple_b above =
    let split_a : size * (a / size) + a % size ≡ a = div-add-mod a size in
    let split_b : size * (b / size) + b % size ≡ b = div-add-mod b size in
    let order : a / size ≤ b / size = le-div (a / size) b size positive (omega arith) in
    let sum : a / size + (b / size - a / size) ≡ b / size = omega arith in
    let products : (a / size + (b / size - a / size)) * size ≡ b / size * size = ap (λ n. n * size) sum in
    omega arith

-- a place is below the count where its sub-prefix ends in the outer prefix
place_fits : (n place k : ℕ) → place * 2 ^ k + 2 ^ k ≤ n * 2 ^ k → place < n
place_fits n place k below =
    let fits : place + 1 ≤ n * 2 ^ k / 2 ^ k = le-div (place + 1) (n * 2 ^ k) (2 ^ k) (pow_pos k) (omega arith) in
    omega (arith, shl-shr n k)

same_prefix : (p : PlainPrefix) (bits len : ℕ) → p.bits ≡ bits → p.len ≡ len → p ≡ record { bits = bits; len = len }
same_prefix p bits len bits_are len_is =
    let with_bits : ℕ → PlainPrefix = λ b. record { bits = b; len = p.len } in
    let with_len : ℕ → PlainPrefix = λ l. record { bits = bits; len = l } in
    ap with_bits bits_are ∙ ap with_len len_is

-- a prefix within an outer one is the sub-prefix at its distance from the lowest
sub_prefix_from_inside : (outer p : PlainPrefix) → IsPrefix outer → outer.len ≤ p.len → IsPrefix p → IsWithin p outer → IsSubPrefix outer p.len p
sub_prefix_from_inside outer p valid longer valid_p within =
    let range = (within_range outer p valid valid_p).0 within in
    let place : ℕ = p.bits / 2 ^ (128 - p.len) - outer.bits / 2 ^ (128 - p.len) in
    let positive = pow_pos (128 - p.len) in
    let apart : p.bits ≡ outer.bits + place * 2 ^ (128 - p.len) =
    sizes_apart outer.bits p.bits (2 ^ (128 - p.len)) positive (no_bit_past_longer outer p.len valid longer valid_p.len_in_range) valid_p.no_bit_past_len range.0 in
    let size = sizes outer p.len longer valid_p.len_in_range in
    let positive_outer = pow_pos (128 - outer.len) in
    (place, place_fits (sub_prefix_count outer p.len) place (128 - p.len) (omega arith), same_prefix p (outer.bits + place * 2 ^ (128 - p.len)) p.len apart refl)

-- the prefixes of a length inside another are its sub-prefixes
pub sub_prefixes_are_all_lem : (outer : PlainPrefix) (len : ℕ) (p : PlainPrefix) → IsPrefix outer → outer.len ≤ len → len ≤ 128 → IsPrefixInside outer len p ↔ IsSubPrefix outer len p
sub_prefixes_are_all_lem outer len p valid longer small = (
  (λ inside.
      let P : ℕ → Type 0 = λ l. IsSubPrefix outer l p in
      subst P inside.of_len (sub_prefix_from_inside outer p valid (omega arith) inside.prefix inside.within)),
  (λ sub.
      let P : PlainPrefix → Type 0 = λ q. IsPrefixInside outer len q in
      let at : IsPlace outer len sub.0 = record { valid = valid; not_shorter = longer; len_in_range = small; below_count = sub.1 } in
      subst P (sym sub.2) (record { prefix = sub_prefix_is_prefix outer len sub.0 at; of_len = refl; within = sub_prefix_is_within outer len sub.0 at })),
)
