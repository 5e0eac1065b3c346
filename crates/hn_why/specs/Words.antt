-- Words that name what a witness is about.
use Rattle.std.specs.Prelude.{ℕ, List, ◌++◌, codes, Option}
use Rattle.std.specs.Fmt.{decimal}
use Rattle.std.specs.List.{slice_get}
use Rattle.std.specs.Option.{option_map_or}
use Rattle.hn_base.specs.HexText.{id_text}
use Rattle.hn_base.specs.Name.{name_text}
use Rattle.hn_base.specs.Prefix.{PlainPrefix}
use Rattle.hn_base.specs.declared.ids.EpId.{EpId}
use Rattle.hn_base.specs.declared.ids.NodeId.{NodeId}
use Rattle.hn_base.specs.declared.name.Name.{Name}
use Rattle.hn_prefix.specs.PrefixText.{prefix_text_of}
use Rattle.hn_world.specs.declared.parts.Parts.{Parts}

-- a name, `-` where there is none; the link at a place
abbrev pub name_or_dash : Option Name → List ℕ
name_or_dash name = option_map_or name_text name (codes "-")

abbrev pub link_text : Parts → ℕ → List ℕ
link_text w place = name_or_dash (slice_get w.links place)

-- a router, a node, and an endpoint of a router
abbrev pub router_words : Name → List ℕ
router_words router = codes " router=" ++ name_text router

abbrev pub node_words : NodeId → List ℕ
node_words node = codes " node=" ++ id_text node.0

abbrev pub endpoint_words : Name → EpId → List ℕ
endpoint_words router e = router_words router ++ codes " ep=" ++ decimal e.0

-- an endpoint of another router
abbrev pub other_words : Name → EpId → List ℕ
other_words other f = codes " other=" ++ name_text other ++ codes " other-ep=" ++ decimal f.0

-- a pair of an endpoint and a delegated prefix
abbrev pub pair_words : Name → EpId → PlainPrefix → List ℕ
pair_words router e delegated = endpoint_words router e ++ codes " in=" ++ prefix_text_of delegated

-- two endpoints, in a sentence
abbrev pub two_endpoints : Name → EpId → Name → EpId → List ℕ
two_endpoints router e other f =
    codes "Endpoint " ++ decimal e.0 ++ codes " of " ++ name_text router ++ codes " and endpoint " ++ decimal f.0 ++ codes " of " ++ name_text other
