-- The fields of a header and of a Prefix Information option, as the numbers that their bytes make.
use Rattle.hn_base.proofs.Names.{◌≡◌, ℕ, zero, suc, ◌-◌, ◌*◌, ◌^◌, ◌/◌, ◌%◌, ◌<◌, ◌≤◌, Bool, not, eqb, cond, List, [], ◌∷◌, ◌++◌, length, get_or, take, drop, bit_and, Some, None, refl, sym, ap, subst}
use Rattle.hn_base.proofs.Names.{◌∙◌, arith, w16, w32, w128, to_be_bytes, from_be_bytes, take-append-drop, get_or-take, length-take-le, length-drop, eq-eqb, ne_eqb, prefix_containing}
use Rattle.hn_advert.proofs.Names.{AreOctets, octets, Info, Fixed, PrefixOption, OtherOption, HasHeaderFirst, HasOptionFirst}
use Rattle.std.proofs.lemmas.Nat.{be_bytes_4}
use Rattle.std.proofs.lemmas.Nat.Bits.{and_pow}
use Rattle.hn_base.proofs.BigEndian.{Bytes-from_reads, Bytes-take, Bytes-drop, whole_is, front_small, two_bytes, two_small}
use Rattle.hn_advert.specs.Reading.{HasFlags}

pub octets_front : (bs fs : List ℕ) (n : ℕ) → AreOctets bs → fs ≡ take n bs → AreOctets fs
octets_front bs fs n h is = rw is (octets (take n bs) (Bytes-take n bs (Bytes-from_reads bs h)))

pub octets_after : (bs fs : List ℕ) (n : ℕ) → AreOctets bs → fs ≡ drop n bs → AreOctets fs
octets_after bs fs n h is = rw is (octets (drop n bs) (Bytes-drop n bs (Bytes-from_reads bs h)))

-- ---- numbers of two and of four bytes

abbrev pub two : ℕ → ℕ → ℕ
two a b = from_be_bytes w16 (a ∷ b ∷ [])

abbrev pub four : ℕ → ℕ → ℕ → ℕ → ℕ
four a b c d = from_be_bytes w32 (a ∷ b ∷ c ∷ d ∷ [])

four_bytes : (a b c d : ℕ) → a < 256 → b < 256 → c < 256 → d < 256 → to_be_bytes w32 (four a b c d) ≡ a ∷ b ∷ c ∷ d ∷ []
four_bytes a b c d p q r s = be_bytes_4 (a ∷ b ∷ c ∷ d ∷ []) (four a b c d) refl (octets (a ∷ b ∷ c ∷ d ∷ []) (p, (q, (r, (s, tt))))) refl

four_small : (a b c d : ℕ) → a < 256 → b < 256 → c < 256 → d < 256 → four a b c d < 2 ^ 32
four_small a b c d p q r s = omega arith

-- ---- the flags

-- a bit of a byte, as the program tests it
tested : (byte power bit : ℕ) → bit_and byte power ≡ bit * power → bit < 2 → 0 < power → cond (not (eqb (bit_and byte power) 0)) power 0 ≡ bit * power
tested byte power zero is few some = let none : bit_and byte power ≡ 0 = omega arith in rw (eq-eqb _ 0 none) (omega arith)
tested byte power (suc zero) is few some = let set : bit_and byte power ≡ 0 → ⊥ = λ e. omega (arith, e) in rw (ne_eqb _ 0 set) (omega arith)
tested byte power (suc (suc bit)) is few some = absurd (omega arith)

pub flags_in : (byte : ℕ) → byte < 256 → HasFlags byte (not (eqb (bit_and byte 128) 0)) (not (eqb (bit_and byte 64) 0))
flags_in byte fits =
    let m : cond (not (eqb (bit_and byte 128) 0)) 128 0 ≡ byte / 128 % 2 * 128 = tested byte 128 (byte / 128 % 2) (and_pow byte 7) (omega arith) (omega arith) in
    let o : cond (not (eqb (bit_and byte 64) 0)) 64 0 ≡ byte / 64 % 2 * 64 = tested byte 64 (byte / 64 % 2) (and_pow byte 6) (omega arith) (omega arith) in
    (byte % 64, omega arith, omega arith)

-- ---- the header

-- the fields of a header of 16 bytes with these flags
abbrev pub fixed_in : List ℕ → Bool → Bool → Fixed
fixed_in hs managed other = record { managed = managed; other = other; lifetime = two (get_or hs 6 0) (get_or hs 7 0) }

header_in : (hs rest : List ℕ) (managed other : Bool) → length hs ≡ 16 → AreOctets hs → get_or hs 0 0 ≡ 134 → get_or hs 1 0 ≡ 0 → HasFlags (get_or hs 5 0) managed other
    → HasHeaderFirst (hs ++ rest) (fixed_in hs managed other) rest
header_in (b0 ∷ b1 ∷ b2 ∷ b3 ∷ b4 ∷ b5 ∷ b6 ∷ b7 ∷ b8 ∷ b9 ∷ b10 ∷ b11 ∷ b12 ∷ b13 ∷ b14 ∷ b15 ∷ []) rest managed other len fits kind code (reserved, few, flags) =
    let c = two_bytes b2 b3 (fits 2) (fits 3) in
    let l = two_bytes b6 b7 (fits 6) (fits 7) in
    let r = four_bytes b8 b9 b10 b11 (fits 8) (fits 9) (fits 10) (fits 11) in
    let t = four_bytes b12 b13 b14 b15 (fits 12) (fits 13) (fits 14) (fits 15) in
    record {
      header = record {
        checksum = two b2 b3;
        hop_limit = b4;
        managed = managed;
        other = other;
        reserved = reserved;
        lifetime = two b6 b7;
        reachable_time = four b8 b9 b10 b11;
        retrans_timer = four b12 b13 b14 b15;
      };
      fits = record {
        checksum = two_small b2 b3 (fits 2) (fits 3);
        hop_limit = fits 4;
        reserved = few;
        lifetime = two_small b6 b7 (fits 6) (fits 7);
        reachable_time = four_small b8 b9 b10 b11 (fits 8) (fits 9) (fits 10) (fits 11);
        retrans_timer = four_small b12 b13 b14 b15 (fits 12) (fits 13) (fits 14) (fits 15);
      };
      parts = cc;
      managed = refl;
      other = refl;
      lifetime = refl;
    }
header_in _ rest managed other len fits kind code flags = absurd (omega arith)

-- ---- a Prefix Information option

-- what an option carries, by its first 16 bytes and its address
abbrev pub info_in : List ℕ → ℕ → Info
info_in fs address = record {
  prefix = prefix_containing address (get_or fs 2 0);
  valid = four (get_or fs 4 0) (get_or fs 5 0) (get_or fs 6 0) (get_or fs 7 0);
  preferred = four (get_or fs 8 0) (get_or fs 9 0) (get_or fs 10 0) (get_or fs 11 0);
}

prefix_in : (fs rest : List ℕ) (address : ℕ) → length fs ≡ 16 → AreOctets fs → get_or fs 0 0 ≡ 3 → get_or fs 1 0 ≡ 4 → get_or fs 2 0 ≤ 128 → address < 2 ^ 128
    → HasOptionFirst (fs ++ (to_be_bytes w128 address ++ rest)) (Some (info_in fs address)) rest
prefix_in (b0 ∷ b1 ∷ b2 ∷ b3 ∷ b4 ∷ b5 ∷ b6 ∷ b7 ∷ b8 ∷ b9 ∷ b10 ∷ b11 ∷ b12 ∷ b13 ∷ b14 ∷ b15 ∷ []) rest address len fits kind units in_range small =
    let v = four_bytes b4 b5 b6 b7 (fits 4) (fits 5) (fits 6) (fits 7) in
    let p = four_bytes b8 b9 b10 b11 (fits 8) (fits 9) (fits 10) (fits 11) in
    let r = four_bytes b12 b13 b14 b15 (fits 12) (fits 13) (fits 14) (fits 15) in
    record {
      option = PrefixOption (record {
        prefix_len = b2;
        flags = b3;
        valid = four b4 b5 b6 b7;
        preferred = four b8 b9 b10 b11;
        reserved = four b12 b13 b14 b15;
        address = address;
      });
      fits = record {
        prefix_len = in_range;
        flags = fits 3;
        valid = four_small b4 b5 b6 b7 (fits 4) (fits 5) (fits 6) (fits 7);
        preferred = four_small b8 b9 b10 b11 (fits 8) (fits 9) (fits 10) (fits 11);
        reserved = four_small b12 b13 b14 b15 (fits 12) (fits 13) (fits 14) (fits 15);
        address = small;
      };
      parts = cc;
      info_is = refl;
    }
prefix_in _ rest address len fits kind units in_range small = absurd (omega arith)

-- sixteen bytes and the address that they make
address_in : (addr : List ℕ) (address : ℕ) → length addr ≡ 16 → AreOctets addr → address ≡ from_be_bytes w128 addr → (addr ≡ to_be_bytes w128 address) × (address < 2 ^ 128)
address_in addr address len fits is =
    let fit = Bytes-from_reads addr fits in
    (whole_is addr len fit ∙ ap (to_be_bytes w128) (sym is), rw is (front_small addr (omega arith) fit))

pub prefix_begins : (bytes fs tail addr rest : List ℕ) (address : ℕ) → AreOctets bytes → 32 ≤ length bytes → get_or bytes 0 0 ≡ 3
    → get_or bytes 1 0 ≡ 4 → fs ≡ take 16 bytes → tail ≡ drop 16 bytes → addr ≡ take 16 tail → rest ≡ drop 16 tail → address ≡ from_be_bytes w128 addr → get_or fs 2 0 ≤ 128
    → HasOptionFirst bytes (Some (info_in fs address)) rest
prefix_begins bytes fs tail addr rest address fits long kind units front back first after number in_range =
    let fs_len : length fs ≡ 16 = ap length front ∙ length-take-le 16 bytes (omega arith) in
    let tail_len : length tail ≡ length bytes - 16 = ap length back ∙ length-drop 16 bytes in
    let addr_len : length addr ≡ 16 = ap length first ∙ length-take-le 16 tail (omega arith) in
    let is = address_in addr address addr_len (octets_front tail addr 16 (octets_after bytes tail 16 fits back) first) number in
    let fs_kind : get_or fs 0 0 ≡ 3 = rw front (get_or-take 16 bytes 0 0 (omega arith) ∙ kind) in
    let fs_units : get_or fs 1 0 ≡ 4 = rw front (get_or-take 16 bytes 1 0 (omega arith) ∙ units) in
    let begins = prefix_in fs rest address fs_len (octets_front bytes fs 16 fits front) fs_kind fs_units in_range is.1 in
    let joined : to_be_bytes w128 address ++ rest ≡ tail = ap (λ (z : List ℕ). z ++ rest) (sym is.0 ∙ first) ∙ ap (λ (z : List ℕ). take 16 tail ++ z) after ∙ take-append-drop 16 tail in
    let parts : fs ++ (to_be_bytes w128 address ++ rest) ≡ bytes = ap (λ (z : List ℕ). fs ++ z) (joined ∙ back) ∙ ap (λ (z : List ℕ). z ++ drop 16 bytes) front ∙ take-append-drop 16 bytes in
    subst (λ (z : List ℕ). HasOptionFirst z (Some (info_in fs address)) rest) parts begins

pub header_begins : (bytes fs rest : List ℕ) (managed other : Bool) → AreOctets bytes → 16 ≤ length bytes → get_or fs 0 0 ≡ 134 → get_or fs 1 0 ≡ 0
    → fs ≡ take 16 bytes → rest ≡ drop 16 bytes → HasFlags (get_or fs 5 0) managed other
    → HasHeaderFirst bytes (fixed_in fs managed other) rest
header_begins bytes fs rest managed other fits long kind code front back flags =
    let fs_len : length fs ≡ 16 = ap length front ∙ length-take-le 16 bytes long in
    let parts : fs ++ rest ≡ bytes = ap (λ (z : List ℕ). fs ++ z) back ∙ ap (λ (z : List ℕ). z ++ drop 16 bytes) front ∙ take-append-drop 16 bytes in
    subst (λ (z : List ℕ). HasHeaderFirst z (fixed_in fs managed other) rest) parts (header_in fs rest managed other fs_len (octets_front bytes fs 16 fits front) kind code flags)

-- ---- an option of another type

pub other_begins : (bytes : List ℕ) (size : ℕ) → 2 ≤ length bytes → (get_or bytes 0 0 ≡ 3 → ⊥) → 0 < size → size ≤ length bytes
    → size ≡ 8 * get_or bytes 1 0 → HasOptionFirst bytes None (drop size bytes)
other_begins [] size some other not_empty within is = absurd (omega arith)
other_begins (kind ∷ []) size some other not_empty within is = absurd (omega arith)
other_begins (kind ∷ units ∷ body) zero some other not_empty within is = absurd (omega arith)
other_begins (kind ∷ units ∷ body) (suc zero) some other not_empty within is = absurd (omega arith)
other_begins (kind ∷ units ∷ body) (suc (suc size)) some other not_empty within is = record {
  option = OtherOption kind units (take size body);
  fits = (other, omega arith, omega (arith, length-take-le size body (omega arith)));
  parts = ap (λ (z : List ℕ). kind ∷ units ∷ z) (sym (take-append-drop size body));
  info_is = refl;
}
