-- What a template says: digits in it stand for parts.
use Rattle.std.specs.Prelude.{ℕ, ◌-◌, ◌%◌, nat_lt, if◌then◌else◌, List, [], ◌∷◌, slice_get}
use Rattle.std.specs.Fmt.{decimal}
use Rattle.std.specs.List.{flat_map}
use Rattle.std.specs.Option.{option_map_or}
use Rattle.hn_base.specs.HexText.{id_text}
use Rattle.hn_base.specs.Name.{name_text}
use Rattle.hn_prefix.specs.PrefixText.{prefix_text_of}
use Rattle.hn_why.specs.Words.{name_or_dash}
use Rattle.hn_why.specs.declared.part.Part.{Part}
use Rattle.hn_why.specs.declared.part.Part.TheVariants as part

-- the text of a part
abbrev pub text_of_part : Part → List ℕ
text_of_part (part.Name name) = name_text name
text_of_part (part.Node node) = id_text node.0
text_of_part (part.Endpoint e) = decimal e.0
text_of_part (part.Number n) = decimal n
text_of_part (part.Moment moment) = decimal moment
text_of_part (part.Prefix prefix) = prefix_text_of prefix
text_of_part (part.Link link) = name_or_dash link.name

-- a character of ASCII is itself, but from 0 on each stands for a part, as long as there are parts
abbrev pub filled : List Part → ℕ → List ℕ
filled parts c = if nat_lt c 48 then c % 128 ∷ [] else option_map_or text_of_part (slice_get parts (c - 48)) (c % 128 ∷ [])

-- a template with its parts
abbrev pub filled_in : List Part → List ℕ → List ℕ
filled_in parts template = flat_map (filled parts) template
