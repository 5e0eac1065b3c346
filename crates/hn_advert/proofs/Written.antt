-- What is written is read again.
use Rattle.hn_base.proofs.Names.{◌≡◌, ℕ, ◌+◌, ◌-◌, ◌*◌, ◌/◌, ◌^◌, ◌<◌, ◌≤◌, List, [], ◌∷◌, ◌++◌, length, get_or, take, map, Option, Some, refl, sym, ap, ◌∙◌, arith, AllByRecursion, filter_map}
use Rattle.hn_base.proofs.Names.{cons_option, flat_map_more, map_push, take_more, take_all, mod-add-div', PlainPrefix, IsPrefix, prefix_containing}
use Rattle.hn_advert.proofs.Names.{AllByRecursion-append, Info, Advert, NdOption, IsHeader, IsNdOption, header_bytes, option_bytes, info_of, AreOptions, options_bytes, IsAdvert}
use Rattle.hn_advert.specs.Advert.{header_of, option_of, advert_bytes, IsInfo, IsInRange}

header_fits : (a : Advert) → a.lifetime < 2 ^ 16 → IsHeader (header_of a)
header_fits a fits = record {
  checksum = omega arith;
  hop_limit = omega arith;
  reserved = omega arith;
  lifetime = fits;
  reachable_time = omega arith;
  retrans_timer = omega arith;
}

option_fits : (i : Info) → IsInfo i → IsNdOption (option_of i)
option_fits i fits = record {
  prefix_len = fits.prefix.len_in_range;
  flags = omega arith;
  valid = fits.valid;
  preferred = fits.preferred;
  reserved = omega arith;
  address = fits.prefix.bits_in_range;
}

-- a prefix is the one of its length that has its lowest address inside
containing_itself : (p : PlainPrefix) → IsPrefix p → prefix_containing p.bits p.len ≡ p
containing_itself p valid =
    let all : p.bits / 2 ^ (128 - p.len) * 2 ^ (128 - p.len) ≡ p.bits = omega (arith, mod-add-div' p.bits (2 ^ (128 - p.len)), valid.no_bit_past_len) in
    rw all refl

info_again : (i : Info) → IsInfo i → info_of (option_of i) ≡ Some i
info_again i fits = rw (containing_itself i.prefix fits.prefix) refl

options_fit : (infos : List Info) → AllByRecursion IsInfo infos → AreOptions (map option_of infos)
options_fit [] fits = tt
options_fit (i ∷ infos) fits = (option_fits i fits.0, options_fit infos fits.1)

infos_again : (infos : List Info) → AllByRecursion IsInfo infos → filter_map info_of (map option_of infos) ≡ infos
infos_again [] fits = refl
infos_again (i ∷ infos) fits = ap (λ (o : Option Info). cons_option o (filter_map info_of (map option_of infos))) (info_again i fits.0)
    ∙ ap (λ (others : List Info). i ∷ others) (infos_again infos fits.1)

pub read_again : (a : Advert) → IsInRange a → IsAdvert (advert_bytes a) a
read_again a fits = record {
  header = header_of a;
  options = map option_of a.infos;
  header_fits = header_fits a fits.lifetime;
  options_fit = options_fit a.infos fits.infos;
  parts = refl;
  advert_is = rw (infos_again a.infos fits.infos) refl;
}

-- ---- while it is written

-- the header, and the options of the first so many prefixes
pub record IsWrittenTo (out : List ℕ) (a : Advert) (count : ℕ) : Type 0 where
  pub written : out ≡ header_bytes (header_of a) ++ options_bytes (map option_of (take count a.infos))
  pub in_range : AllByRecursion IsInfo (take count a.infos)

pub writes_more : (out new : List ℕ) (a : Advert) (count : ℕ) (i : Info) → IsWrittenTo out a count → count < length a.infos
    → i ≡ get_or a.infos count i → IsInfo i → new ≡ out ++ option_bytes (option_of i) → IsWrittenTo new a (count + 1)
writes_more out new a count i so_far here is fit more =
    let next : take (count + 1) a.infos ≡ take count a.infos ++ i ∷ [] = take_more a.infos count i here ∙ ap (λ (j : Info). take count a.infos ++ j ∷ []) (sym is) in
    record {
      written = more ∙ ap (λ (z : List ℕ). z ++ option_bytes (option_of i)) so_far.written
          ∙ flat_map_more option_bytes (header_bytes (header_of a)) (map option_of (take count a.infos)) (option_of i)
          ∙ ap (λ (os : List NdOption). header_bytes (header_of a) ++ options_bytes os) (sym (ap (map option_of) next ∙ map_push option_of (take count a.infos) i));
      in_range = rw next (AllByRecursion-append IsInfo (take count a.infos) (i ∷ []) so_far.in_range (fit, tt));
    }

pub all_written : (out : List ℕ) (a : Advert) (count : ℕ) → IsWrittenTo out a count → length a.infos ≤ count → a.lifetime < 2 ^ 16 → (out ≡ advert_bytes a) × IsAdvert out a
all_written out a count so_far ends fits =
    let all : take count a.infos ≡ a.infos = take_all count a.infos ends in
    let whole : out ≡ advert_bytes a = so_far.written ∙ ap (λ (infos : List Info). header_bytes (header_of a) ++ options_bytes (map option_of infos)) all in
    (whole, rw whole (read_again a (record { lifetime = fits; infos = rw all at so_far.in_range })))
