-- What the parts of a reading answer.
use Rattle.std.specs.Prelude.{◌≡◌, ℕ, ◌+◌, ◌^◌, ◌<◌, Bool, List, ◌++◌, Option}
use Rattle.std.specs.List.{filter_map}
use Rattle.hn_advert.specs.declared.advert.Info.{Info}
use Rattle.hn_advert.specs.declared.header.Fixed.{Fixed}
use Rattle.hn_advert.specs.Layout.{Header, IsHeader, flags_byte, header_bytes, NdOption, IsNdOption, option_bytes}
use Rattle.hn_advert.specs.Advert.{info_of, AreOptions, options_bytes}
use Rattle.hn_advert.specs.Fault.{IsFirstOptionFault}

-- the byte has these two flags
abbrev pub HasFlags : ℕ → Bool → Bool → Type 0
HasFlags byte managed other = (reserved : ℕ) × (reserved < 2 ^ 6) × (byte ≡ flags_byte managed other reserved)

-- the bytes are a header with these fields, and then the rest
pub record HasHeaderFirst (bytes : List ℕ) (fixed : Fixed) (rest : List ℕ) : Type 0 where
  pub header : Header
  pub fits : IsHeader header
  pub parts : bytes ≡ header_bytes header ++ rest
  pub managed : header.managed ≡ fixed.managed
  pub other : header.other ≡ fixed.other
  pub lifetime : header.lifetime ≡ fixed.lifetime

-- the bytes are an option that carries this, and then the rest
pub record HasOptionFirst (bytes : List ℕ) (info : Option Info) (rest : List ℕ) : Type 0 where
  pub option : NdOption
  pub fits : IsNdOption option
  pub parts : bytes ≡ option_bytes option ++ rest
  pub info_is : info_of option ≡ info

-- the bytes are options
pub record HasOptions (bytes : List ℕ) : Type 0 where
  pub options : List NdOption
  pub fit : AreOptions options
  pub parts : bytes ≡ options_bytes options

-- the bytes are options that carry these
pub record HasInfos (bytes : List ℕ) (infos : List Info) : Type 0 where
  pub options : List NdOption
  pub fit : AreOptions options
  pub parts : bytes ≡ options_bytes options
  pub infos_are : filter_map info_of options ≡ infos

-- the first fault of the options, at a place that is counted from the beginning of the message
abbrev pub IsFaultOfOptions : List ℕ → ℕ → ℕ → Type 0
IsFaultOfOptions bytes place why = (offset : ℕ) × (place ≡ 16 + offset) × IsFirstOptionFault bytes offset why
