-- A message that is read piece by piece: its header, and option after option.
use Rattle.hn_base.proofs.Names.{◌≡◌, ℕ, ◌+◌, ◌-◌, List, [], ◌∷◌, ◌++◌, length, Option, option_to_list, refl, sym, ap, ◌∙◌, append_assoc, arith, filter_map, cons_option, flat_map-append, append-nil}
use Rattle.hn_advert.proofs.Names.{length-append, AllByRecursion-append, Info, Advert, Fixed, header_bytes, NdOption, IsNdOption, option_bytes, info_of, AreOptions, options_bytes, IsAdvert}
use Rattle.hn_advert.proofs.Names.{IsOptionFault, IsFirstOptionFault, HasHeaderFirst, HasOptionFirst, HasOptions, HasInfos}
use Rattle.hn_base.proofs.PartsAtPlaces.{filter_map-push}
use Rattle.hn_advert.specs.Fault.{IsFaultAfterHeader}
use Rattle.hn_advert.specs.Reading.{IsFaultOfOptions}

-- ---- the header, and then the options

pub advert_of_parts : (bytes rest : List ℕ) (fixed : Fixed) (infos : List Info) → HasHeaderFirst bytes fixed rest → HasInfos rest infos
    → IsAdvert bytes (record { managed = fixed.managed; other = fixed.other; lifetime = fixed.lifetime; infos = infos })
advert_of_parts bytes rest fixed infos h o = record {
  header = h.header;
  options = o.options;
  header_fits = h.fits;
  options_fit = o.fit;
  parts = h.parts ∙ ap (λ (z : List ℕ). header_bytes h.header ++ z) o.parts;
  advert_is = rw (h.managed, h.other, h.lifetime, o.infos_are) refl;
}

pub has_fault : (bytes rest : List ℕ) (fixed : Fixed) (place why : ℕ) → HasHeaderFirst bytes fixed rest → IsFaultOfOptions rest place why → IsFaultAfterHeader bytes place why
has_fault bytes rest fixed place why h (offset, at, fault) = record {
  header = h.header;
  rest = rest;
  offset = offset;
  header_fits = h.fits;
  parts = h.parts;
  fault = fault;
  place_is = at;
}

pub has_advert : (bytes rest : List ℕ) (fixed : Fixed) → HasHeaderFirst bytes fixed rest → HasOptions rest → (advert : Advert) × IsAdvert bytes advert
has_advert bytes rest fixed h o = (_, advert_of_parts bytes rest fixed (filter_map info_of o.options) h (record { options = o.options; fit = o.fit; parts = o.parts; infos_are = refl }))

-- ---- an option, and then the others

pub infos_cons : (bytes rest : List ℕ) (info : Option Info) (infos : List Info) → HasOptionFirst bytes info rest → HasInfos rest infos → HasInfos bytes (cons_option info infos)
infos_cons bytes rest info infos b o = record {
  options = b.option ∷ o.options;
  fit = (b.fits, o.fit);
  parts = b.parts ∙ ap (λ (z : List ℕ). option_bytes b.option ++ z) o.parts;
  infos_are = rw (b.info_is, o.infos_are) refl;
}

pub fault_cons : (bytes rest : List ℕ) (info : Option Info) (place why : ℕ) (b : HasOptionFirst bytes info rest) → IsFirstOptionFault rest place why
    → IsFirstOptionFault bytes (length (option_bytes b.option) + place) why
fault_cons bytes rest info place why b f = record {
  options = b.option ∷ f.options;
  rest = f.rest;
  offset = f.offset;
  options_fit = (b.fits, f.options_fit);
  parts = b.parts ∙ ap (λ (z : List ℕ). option_bytes b.option ++ z) f.parts ∙ sym (append_assoc (option_bytes b.option) (options_bytes f.options) f.rest);
  fault = f.fault;
  place_is = omega (arith, f.place_is, length-append (option_bytes b.option) (options_bytes f.options));
}

-- ---- the options so far

-- bytes whose options before a rest carry these
pub record IsReadTo (bytes rest : List ℕ) (infos : List Info) : Type 0 where
  pub options : List NdOption
  pub fit : AreOptions options
  pub parts : bytes ≡ options_bytes options ++ rest
  pub infos_are : filter_map info_of options ≡ infos

pub reads_more : (bytes rest after : List ℕ) (infos : List Info) (info : Option Info) → IsReadTo bytes rest infos → HasOptionFirst rest info after → IsReadTo bytes after (infos ++ option_to_list info)
reads_more bytes rest after infos info read b = record {
  options = read.options ++ b.option ∷ [];
  fit = AllByRecursion-append IsNdOption read.options (b.option ∷ []) read.fit (b.fits, tt);
  parts = rw (flat_map-append option_bytes read.options (b.option ∷ []), append-nil (option_bytes b.option), append_assoc (options_bytes read.options) (option_bytes b.option) after)
      (read.parts ∙ ap (λ (z : List ℕ). options_bytes read.options ++ z) b.parts);
  infos_are = rw (filter_map-push info_of read.options b.option, read.infos_are, b.info_is) refl;
}

pub reads_all : (bytes rest : List ℕ) (infos : List Info) → IsReadTo bytes rest infos → rest ≡ [] → HasInfos bytes infos
reads_all bytes rest infos read ends = record {
  options = read.options;
  fit = read.fit;
  parts = read.parts ∙ ap (λ (z : List ℕ). options_bytes read.options ++ z) ends ∙ append-nil (options_bytes read.options);
  infos_are = read.infos_are;
}

pub breaks_off : (bytes rest : List ℕ) (infos : List Info) (offset why : ℕ) (read : IsReadTo bytes rest infos) → IsOptionFault rest offset why
    → IsFirstOptionFault bytes (length (options_bytes read.options) + offset) why
breaks_off bytes rest infos offset why read f = record {
  options = read.options;
  rest = rest;
  offset = offset;
  options_fit = read.fit;
  parts = read.parts;
  fault = f;
  place_is = refl;
}

-- a fault at an option, as the program tells its place
pub breaks_off_at : (bytes rest : List ℕ) (infos : List Info) (offset why : ℕ) → IsReadTo bytes rest infos → IsOptionFault rest offset why
    → IsFaultOfOptions bytes (16 + length bytes - length rest + offset) why
breaks_off_at bytes rest infos offset why read f =
    let front : List ℕ = options_bytes read.options in
    let sizes : length bytes ≡ length front + length rest = ap length read.parts ∙ length-append front rest in
    (length front + offset, omega arith, breaks_off bytes rest infos offset why read f)
