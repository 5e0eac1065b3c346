-- What is said of a witness by which a router is not settled.
use Rattle.std.specs.Prelude.{ℕ, List, [], ◌∷◌, ◌++◌, codes}
use Rattle.std.specs.Fmt.{decimal}
use Rattle.hn_audit.specs.declared.witness.Unsettled.{Unsettled}
use Rattle.hn_audit.specs.declared.witness.Unsettled.TheVariants as cause
use Rattle.hn_base.specs.HexText.{id_text}
use Rattle.hn_base.specs.Name.{name_text}
use Rattle.hn_world.specs.declared.parts.Parts.{Parts}
use Rattle.hn_why.specs.Words.{link_text, router_words, node_words, endpoint_words, other_words, two_endpoints}

-- its words: the cause, and what it is about
abbrev pub unsettled_words : Parts → Unsettled → List ℕ
unsettled_words w (cause.Unknown id) = codes "unknown" ++ node_words id
unsettled_words w (cause.Shared id) = codes "shared" ++ node_words id
unsettled_words w (cause.OtherReach router) = codes "other-reach" ++ router_words router
unsettled_words w (cause.NotHeld router node) = codes "not-held" ++ router_words router ++ node_words node
unsettled_words w (cause.OldData router node holds current) =
    codes "old-data" ++ router_words router ++ node_words node ++ codes " holds=" ++ decimal holds ++ codes " current=" ++ decimal current
unsettled_words w (cause.OtherPrefixes router other) = codes "other-prefixes" ++ router_words router ++ codes " other=" ++ name_text other
unsettled_words w (cause.Stranger router e link) = codes "stranger" ++ endpoint_words router e ++ codes " link=" ++ link_text w link
unsettled_words w (cause.NotLinked router e other f) = codes "not-linked" ++ endpoint_words router e ++ other_words other f
unsettled_words w (cause.NotOnOneLink router e other f) = codes "not-on-one-link" ++ endpoint_words router e ++ other_words other f

-- a sentence on it; the router that is not settled has this name
abbrev pub unsettled_sentence : List ℕ → Parts → Unsettled → List ℕ
unsettled_sentence name w (cause.Unknown id) =
    name ++ codes " reaches node " ++ id_text id.0 ++ codes ", and no router that runs has this identifier." ++ 10 ∷ []
unsettled_sentence name w (cause.Shared id) =
    name ++ codes " reaches node " ++ id_text id.0 ++ codes ", and several routers that run have this identifier." ++ 10 ∷ []
unsettled_sentence name w (cause.OtherReach router) =
    name_text router ++ codes " reaches other nodes than " ++ name ++ codes " does." ++ 10 ∷ []
unsettled_sentence name w (cause.NotHeld router node) =
    name_text router ++ codes " holds no node data of node " ++ id_text node.0 ++ codes "." ++ 10 ∷ []
unsettled_sentence name w (cause.OldData router node holds current) =
    name_text router ++ codes " holds node data of node " ++ id_text node.0 ++ codes " with number " ++ decimal holds
    ++ codes ", and these are not its own ones with number " ++ decimal current ++ codes "." ++ 10 ∷ []
unsettled_sentence name w (cause.OtherPrefixes router other) =
    name_text router ++ codes " and " ++ name_text other ++ codes " do not use and want the same delegated prefixes." ++ 10 ∷ []
unsettled_sentence name w (cause.Stranger router e link) =
    codes "Endpoint " ++ decimal e.0 ++ codes " of " ++ name_text router ++ codes ", which " ++ name
    ++ codes " does not reach, is on the link " ++ link_text w link ++ codes " beside one that it reaches." ++ 10 ∷ []
unsettled_sentence name w (cause.NotLinked router e other f) =
    two_endpoints router e other f ++ codes " are on one link, and do not have each other as peers." ++ 10 ∷ []
unsettled_sentence name w (cause.NotOnOneLink router e other f) =
    two_endpoints router e other f ++ codes " have each other as peers, and are not on one link." ++ 10 ∷ []
