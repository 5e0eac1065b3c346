-- Which bytes are which Router Advertisement (RFC 4861, sections 4.2 and 4.6.2).
use Rattle.std.specs.Prelude.{◌≡◌, ℕ, ◌^◌, ◌<◌, List, ◌++◌, map, Option, Some, None}
use Rattle.std.specs.List.{AllByRecursion, filter_map, flat_map}
use Rattle.hn_base.specs.Prefix.{IsPrefix, prefix_containing}
use Rattle.hn_advert.specs.declared.advert.Info.{Info}
use Rattle.hn_advert.specs.declared.advert.Advert.{Advert}
use Rattle.hn_advert.specs.Layout.{Header, IsHeader, header_bytes, NdOption, PrefixOption, OtherOption, IsNdOption, option_bytes}

-- a list of options, and their bytes, one option after the other
abbrev pub AreOptions : List NdOption → Type 0
AreOptions options = AllByRecursion IsNdOption options

abbrev pub options_bytes : List NdOption → List ℕ
options_bytes options = flat_map option_bytes options

-- ---- what is read

-- What a Prefix Information option carries: its prefix, with the bits past the length set to zero, and two lifetimes.
-- The flags and the reserved field are not looked at. An option of another type carries nothing.
abbrev pub info_of : NdOption → Option Info
info_of (PrefixOption p) = Some (record { prefix = prefix_containing p.address p.prefix_len; valid = p.valid; preferred = p.preferred })
info_of (OtherOption kind units body) = None

-- the advertisement that a header and options make
abbrev pub advert_of : Header → List NdOption → Advert
advert_of h options = record { managed = h.managed; other = h.other; lifetime = h.lifetime; infos = filter_map info_of options }

-- the bytes are a header and then options, which make this advertisement
pub record IsAdvert (bytes : List ℕ) (advert : Advert) : Type 0 where
  pub header : Header
  pub options : List NdOption
  pub header_fits : IsHeader header
  pub options_fit : AreOptions options
  pub parts : bytes ≡ header_bytes header ++ options_bytes options
  pub advert_is : advert ≡ advert_of header options

-- ---- what is written

-- the header of an advertisement: checksum 0, which the IP stack fills in, hop limit 64, times 0
abbrev pub header_of : Advert → Header
header_of a = record {
  checksum = 0;
  hop_limit = 64;
  managed = a.managed;
  other = a.other;
  reserved = 0;
  lifetime = a.lifetime;
  reachable_time = 0;
  retrans_timer = 0;
}

-- the option of a prefix, with the flags L and A
abbrev pub option_of : Info → NdOption
option_of i = PrefixOption (record {
  prefix_len = i.prefix.len;
  flags = 0xC0;
  valid = i.valid;
  preferred = i.preferred;
  reserved = 0;
  address = i.prefix.bits;
})

-- the bytes of an advertisement: its header, and an option for each prefix, in order
abbrev pub advert_bytes : Advert → List ℕ
advert_bytes a = header_bytes (header_of a) ++ options_bytes (map option_of a.infos)

-- each number fits its field
pub record IsInfo (i : Info) : Type 0 where
  pub prefix : IsPrefix i.prefix
  pub valid : i.valid < 2 ^ 32
  pub preferred : i.preferred < 2 ^ 32

pub record IsInRange (a : Advert) : Type 0 where
  pub lifetime : a.lifetime < 2 ^ 16
  pub infos : AllByRecursion IsInfo a.infos
