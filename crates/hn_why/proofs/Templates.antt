-- What the templates say is what is said of the witnesses.
use Rattle.hn_base.proofs.Names.{◌≡◌, ◌∙◌, ℕ, List, [], ◌∷◌, ◌++◌, codes, Option, slice_get, refl, sym, ap, append_assoc, decimal, id_text, name_text, PlainPrefix}
use Rattle.hn_audit.specs.declared.witness.Unquiet.TheVariants as act
use Rattle.hn_audit.specs.declared.witness.Unsettled.TheVariants as cause
use Rattle.hn_base.specs.declared.ids.EpId.{EpId}
use Rattle.hn_base.specs.declared.ids.NodeId.{NodeId}
use Rattle.hn_base.specs.declared.name.Name.{Name}
use Rattle.hn_prefix.specs.PrefixText.{prefix_text_of}
use Rattle.hn_world.specs.declared.parts.Parts.{Parts}
use Rattle.hn_why.specs.Parts.{filled_in}
use Rattle.hn_why.specs.Unquiet.{unquiet_words, unquiet_sentence}
use Rattle.hn_why.specs.Unsettled.{unsettled_words, unsettled_sentence}
use Rattle.hn_why.specs.Words.{link_text, router_words, node_words, endpoint_words, other_words, pair_words}
use Rattle.hn_why.specs.declared.link.LinkName.{LinkName}
use Rattle.hn_why.specs.declared.part.Part.TheVariants as part

-- texts joined from the left, as definitions join them, and to the right, with a rest
abbrev joined : List ℕ → List (List ℕ) → List ℕ
joined a [] = a
joined a (x ∷ xs) = joined (a ++ x) xs

abbrev chain : List (List ℕ) → List ℕ → List ℕ
chain [] rest = rest
chain (x ∷ xs) rest = x ++ chain xs rest

as_chain : (a : List ℕ) (xs : List (List ℕ)) (rest : List ℕ) → joined a xs ++ rest ≡ a ++ chain xs rest
as_chain a [] rest = refl
as_chain a (x ∷ xs) rest = as_chain (a ++ x) xs rest ∙ append_assoc a x (chain xs rest)

-- what names an endpoint, and a pair, with a rest
endpoint_then : (router : Name) (e : EpId) (rest : List ℕ) → endpoint_words router e ++ rest ≡ codes " router=" ++ chain (name_text router ∷ codes " ep=" ∷ decimal e.0 ∷ []) rest
endpoint_then router e rest = as_chain (codes " router=") (name_text router ∷ codes " ep=" ∷ decimal e.0 ∷ []) rest

pair_then : (router : Name) (e : EpId) (d : PlainPrefix) (rest : List ℕ) → pair_words router e d ++ rest
    ≡ codes " router=" ++ chain (name_text router ∷ codes " ep=" ∷ decimal e.0 ∷ codes " in=" ∷ prefix_text_of d ∷ []) rest
pair_then router e d rest = as_chain (codes " router=") (name_text router ∷ codes " ep=" ∷ decimal e.0 ∷ codes " in=" ∷ prefix_text_of d ∷ []) rest

other_then : (other : Name) (f : EpId) (rest : List ℕ) → other_words other f ++ rest ≡ codes " other=" ++ chain (name_text other ∷ codes " other-ep=" ∷ decimal f.0 ∷ []) rest
other_then other f rest = as_chain (codes " other=") (name_text other ∷ codes " other-ep=" ∷ decimal f.0 ∷ []) rest

router_then : (router : Name) (rest : List ℕ) → router_words router ++ rest ≡ codes " router=" ++ (name_text router ++ rest)
router_then router rest = append_assoc (codes " router=") (name_text router) rest

node_then : (node : NodeId) (rest : List ℕ) → node_words node ++ rest ≡ codes " node=" ++ (id_text node.0 ++ rest)
node_then node rest = append_assoc (codes " node=") (id_text node.0) rest

pub unasked_said : (router : Name) (e : EpId) (d : PlainPrefix) (p : PlainPrefix)
    → filled_in (part.Name router ∷ part.Endpoint e ∷ part.Prefix d ∷ part.Prefix p ∷ [])
    (codes "unasked router=0 ep=1 in=2 is=3" ++ 10 ∷ (codes "0 would give up 3 at endpoint 1: it asks for no prefix in 2 there." ++ 10 ∷ []))
    ≡ unquiet_words (act.Unasked router e d p) ++ 10 ∷ unquiet_sentence (act.Unasked router e d p)
unasked_said router e d p =
    let rest = 10 ∷ unquiet_sentence (act.Unasked router e d p) in
    let words = as_chain (codes "unasked") (pair_words router e d ∷ codes " is=" ∷ prefix_text_of p ∷ []) rest in
    let sentence = as_chain (name_text router) (codes " would give up " ∷ prefix_text_of p ∷ codes " at endpoint " ∷ decimal e.0 ∷ codes ": it asks for no prefix in "
    ∷ prefix_text_of d ∷ codes " there." ∷ []) (10 ∷ []) in
    sym (words
    ∙ ap (λ (ys : List ℕ). codes "unasked" ++ ys) (pair_then router e d (chain (codes " is=" ∷ prefix_text_of p ∷ []) rest))
    ∙ ap (λ (ys : List ℕ). codes "unasked router=" ++ chain (name_text router ∷ codes " ep=" ∷ decimal e.0 ∷ codes " in=" ∷ prefix_text_of d ∷ codes " is=" ∷ prefix_text_of p
    ∷ []) (10 ∷ ys)) sentence)

pub makes_said : (router : Name) (e : EpId) (d : PlainPrefix)
    → filled_in (part.Name router ∷ part.Endpoint e ∷ part.Prefix d ∷ [])
    (codes "makes router=0 ep=1 in=2" ++ 10 ∷ (codes "0 would assign a prefix in 2 to endpoint 1." ++ 10 ∷ []))
    ≡ unquiet_words (act.Makes router e d) ++ 10 ∷ unquiet_sentence (act.Makes router e d)
makes_said router e d =
    let rest = 10 ∷ unquiet_sentence (act.Makes router e d) in
    let words = as_chain (codes "makes") (pair_words router e d ∷ []) rest in
    let sentence = as_chain (name_text router) (codes " would assign a prefix in " ∷ prefix_text_of d ∷ codes " to endpoint " ∷ decimal e.0 ∷ codes "." ∷ []) (10 ∷ []) in
    sym (words
    ∙ ap (λ (ys : List ℕ). codes "makes" ++ ys) (pair_then router e d rest)
    ∙ ap (λ (ys : List ℕ). codes "makes router=" ++ chain (name_text router ∷ codes " ep=" ∷ decimal e.0 ∷ codes " in=" ∷ prefix_text_of d ∷ []) (10 ∷ ys)) sentence)

pub takes_said : (router : Name) (e : EpId) (d : PlainPrefix) (best : PlainPrefix)
    → filled_in (part.Name router ∷ part.Endpoint e ∷ part.Prefix d ∷ part.Prefix best ∷ [])
    (codes "takes router=0 ep=1 in=2 best=3" ++ 10 ∷ (codes "0 would take 3 in 2 at endpoint 1, as another node has it there." ++ 10 ∷ []))
    ≡ unquiet_words (act.Takes router e d best) ++ 10 ∷ unquiet_sentence (act.Takes router e d best)
takes_said router e d best =
    let rest = 10 ∷ unquiet_sentence (act.Takes router e d best) in
    let words = as_chain (codes "takes") (pair_words router e d ∷ codes " best=" ∷ prefix_text_of best ∷ []) rest in
    let sentence = as_chain (name_text router) (codes " would take " ∷ prefix_text_of best ∷ codes " in " ∷ prefix_text_of d ∷ codes " at endpoint " ∷ decimal e.0
    ∷ codes ", as another node has it there." ∷ []) (10 ∷ []) in
    sym (words
    ∙ ap (λ (ys : List ℕ). codes "takes" ++ ys) (pair_then router e d (chain (codes " best=" ∷ prefix_text_of best ∷ []) rest))
    ∙ ap (λ (ys : List ℕ). codes "takes router=" ++ chain (name_text router ∷ codes " ep=" ∷ decimal e.0 ∷ codes " in=" ∷ prefix_text_of d ∷ codes " best=" ∷ prefix_text_of best
    ∷ []) (10 ∷ ys)) sentence)

pub drops_said : (router : Name) (e : EpId) (d : PlainPrefix) (p : PlainPrefix)
    → filled_in (part.Name router ∷ part.Endpoint e ∷ part.Prefix d ∷ part.Prefix p ∷ [])
    (codes "drops router=0 ep=1 in=2 is=3" ++ 10 ∷ (codes "0 would give up or publish 3 in 2 at endpoint 1." ++ 10 ∷ []))
    ≡ unquiet_words (act.Drops router e d p) ++ 10 ∷ unquiet_sentence (act.Drops router e d p)
drops_said router e d p =
    let rest = 10 ∷ unquiet_sentence (act.Drops router e d p) in
    let words = as_chain (codes "drops") (pair_words router e d ∷ codes " is=" ∷ prefix_text_of p ∷ []) rest in
    let sentence = as_chain (name_text router) (codes " would give up or publish " ∷ prefix_text_of p ∷ codes " in " ∷ prefix_text_of d ∷ codes " at endpoint " ∷ decimal e.0
    ∷ codes "." ∷ []) (10 ∷ []) in
    sym (words
    ∙ ap (λ (ys : List ℕ). codes "drops" ++ ys) (pair_then router e d (chain (codes " is=" ∷ prefix_text_of p ∷ []) rest))
    ∙ ap (λ (ys : List ℕ). codes "drops router=" ++ chain (name_text router ∷ codes " ep=" ∷ decimal e.0 ∷ codes " in=" ∷ prefix_text_of d ∷ codes " is=" ∷ prefix_text_of p ∷ []) (10
    ∷ ys)) sentence)

pub changes_said : (router : Name) (e : EpId) (d : PlainPrefix) (p : PlainPrefix) (best : PlainPrefix)
    → filled_in (part.Name router ∷ part.Endpoint e ∷ part.Prefix d ∷ part.Prefix p ∷ part.Prefix best ∷ [])
    (codes "changes router=0 ep=1 in=2 is=3 best=4" ++ 10 ∷ (codes "0 would not leave 3 in 2 at endpoint 1 as it is beside 4 of another node." ++ 10 ∷ []))
    ≡ unquiet_words (act.Changes router e d p best) ++ 10 ∷ unquiet_sentence (act.Changes router e d p best)
changes_said router e d p best =
    let rest = 10 ∷ unquiet_sentence (act.Changes router e d p best) in
    let words = as_chain (codes "changes") (pair_words router e d ∷ codes " is=" ∷ prefix_text_of p ∷ codes " best=" ∷ prefix_text_of best ∷ []) rest in
    let sentence = as_chain (name_text router) (codes " would not leave " ∷ prefix_text_of p ∷ codes " in " ∷ prefix_text_of d ∷ codes " at endpoint " ∷ decimal e.0
    ∷ codes " as it is beside " ∷ prefix_text_of best ∷ codes " of another node." ∷ []) (10 ∷ []) in
    sym (words
    ∙ ap (λ (ys : List ℕ). codes "changes" ++ ys) (pair_then router e d (chain (codes " is=" ∷ prefix_text_of p ∷ codes " best=" ∷ prefix_text_of best ∷ []) rest))
    ∙ ap (λ (ys : List ℕ). codes "changes router=" ++ chain (name_text router ∷ codes " ep=" ∷ decimal e.0 ∷ codes " in=" ∷ prefix_text_of d ∷ codes " is=" ∷ prefix_text_of p
    ∷ codes " best=" ∷ prefix_text_of best ∷ []) (10 ∷ ys)) sentence)

pub unknown_said : (w : Parts) (name : Name) (id : NodeId)
    → filled_in (part.Name name ∷ part.Node id ∷ [])
    (codes "unknown node=1" ++ 10 ∷ (codes "0 reaches node 1, and no router that runs has this identifier." ++ 10 ∷ []))
    ≡ unsettled_words w (cause.Unknown id) ++ 10 ∷ unsettled_sentence (name_text name) w (cause.Unknown id)
unknown_said w name id =
    let rest = 10 ∷ unsettled_sentence (name_text name) w (cause.Unknown id) in
    let words = as_chain (codes "unknown") (node_words id ∷ []) rest in
    let sentence = as_chain (name_text name) (codes " reaches node " ∷ id_text id.0 ∷ codes ", and no router that runs has this identifier." ∷ []) (10 ∷ []) in
    sym (words
    ∙ ap (λ (ys : List ℕ). codes "unknown" ++ ys) (node_then id rest)
    ∙ ap (λ (ys : List ℕ). codes "unknown node=" ++ chain (id_text id.0 ∷ []) (10 ∷ ys)) sentence)

pub shared_said : (w : Parts) (name : Name) (id : NodeId)
    → filled_in (part.Name name ∷ part.Node id ∷ [])
    (codes "shared node=1" ++ 10 ∷ (codes "0 reaches node 1, and several routers that run have this identifier." ++ 10 ∷ []))
    ≡ unsettled_words w (cause.Shared id) ++ 10 ∷ unsettled_sentence (name_text name) w (cause.Shared id)
shared_said w name id =
    let rest = 10 ∷ unsettled_sentence (name_text name) w (cause.Shared id) in
    let words = as_chain (codes "shared") (node_words id ∷ []) rest in
    let sentence = as_chain (name_text name) (codes " reaches node " ∷ id_text id.0 ∷ codes ", and several routers that run have this identifier." ∷ []) (10 ∷ []) in
    sym (words
    ∙ ap (λ (ys : List ℕ). codes "shared" ++ ys) (node_then id rest)
    ∙ ap (λ (ys : List ℕ). codes "shared node=" ++ chain (id_text id.0 ∷ []) (10 ∷ ys)) sentence)

pub other_reach_said : (w : Parts) (name : Name) (router : Name)
    → filled_in (part.Name name ∷ part.Name router ∷ [])
    (codes "other-reach router=1" ++ 10 ∷ (codes "1 reaches other nodes than 0 does." ++ 10 ∷ []))
    ≡ unsettled_words w (cause.OtherReach router) ++ 10 ∷ unsettled_sentence (name_text name) w (cause.OtherReach router)
other_reach_said w name router =
    let rest = 10 ∷ unsettled_sentence (name_text name) w (cause.OtherReach router) in
    let words = as_chain (codes "other-reach") (router_words router ∷ []) rest in
    let sentence = as_chain (name_text router) (codes " reaches other nodes than " ∷ name_text name ∷ codes " does." ∷ []) (10 ∷ []) in
    sym (words
    ∙ ap (λ (ys : List ℕ). codes "other-reach" ++ ys) (router_then router rest)
    ∙ ap (λ (ys : List ℕ). codes "other-reach router=" ++ chain (name_text router ∷ []) (10 ∷ ys)) sentence)

pub not_held_said : (w : Parts) (name : Name) (router : Name) (node : NodeId)
    → filled_in (part.Name router ∷ part.Node node ∷ [])
    (codes "not-held router=0 node=1" ++ 10 ∷ (codes "0 holds no node data of node 1." ++ 10 ∷ []))
    ≡ unsettled_words w (cause.NotHeld router node) ++ 10 ∷ unsettled_sentence (name_text name) w (cause.NotHeld router node)
not_held_said w name router node =
    let rest = 10 ∷ unsettled_sentence (name_text name) w (cause.NotHeld router node) in
    let words = as_chain (codes "not-held") (router_words router ∷ node_words node ∷ []) rest in
    let sentence = as_chain (name_text router) (codes " holds no node data of node " ∷ id_text node.0 ∷ codes "." ∷ []) (10 ∷ []) in
    sym (words
    ∙ ap (λ (ys : List ℕ). codes "not-held" ++ ys) (router_then router (chain (node_words node ∷ []) rest))
    ∙ ap (λ (ys : List ℕ). codes "not-held" ++ (codes " router=" ++ (name_text router ++ ys))) (node_then node rest)
    ∙ ap (λ (ys : List ℕ). codes "not-held router=" ++ chain (name_text router ∷ codes " node=" ∷ id_text node.0 ∷ []) (10 ∷ ys)) sentence)

pub old_data_said : (w : Parts) (name : Name) (router : Name) (node : NodeId) (holds : ℕ) (current : ℕ)
    → filled_in (part.Name router ∷ part.Node node ∷ part.Number holds ∷ part.Number current ∷ [])
    (codes "old-data router=0 node=1 holds=2 current=3" ++ 10 ∷ (codes "0 holds node data of node 1 with number 2, and these are not its own ones with number 3." ++ 10 ∷ []))
    ≡ unsettled_words w (cause.OldData router node holds current) ++ 10 ∷ unsettled_sentence (name_text name) w (cause.OldData router node holds current)
old_data_said w name router node holds current =
    let rest = 10 ∷ unsettled_sentence (name_text name) w (cause.OldData router node holds current) in
    let words = as_chain (codes "old-data") (router_words router ∷ node_words node ∷ codes " holds=" ∷ decimal holds ∷ codes " current=" ∷ decimal current ∷ []) rest in
    let sentence = as_chain (name_text router) (codes " holds node data of node " ∷ id_text node.0 ∷ codes " with number " ∷ decimal holds
    ∷ codes ", and these are not its own ones with number " ∷ decimal current ∷ codes "." ∷ []) (10 ∷ []) in
    sym (words
    ∙ ap (λ (ys : List ℕ). codes "old-data" ++ ys) (router_then router (chain (node_words node ∷ codes " holds=" ∷ decimal holds ∷ codes " current=" ∷ decimal current ∷ []) rest))
    ∙ ap (λ (ys : List ℕ). codes "old-data" ++ (codes " router=" ++ (name_text router ++ ys))) (node_then node (chain (codes " holds=" ∷ decimal holds ∷ codes " current="
    ∷ decimal current ∷ []) rest))
    ∙ ap (λ (ys : List ℕ). codes "old-data router=" ++ chain (name_text router ∷ codes " node=" ∷ id_text node.0 ∷ codes " holds=" ∷ decimal holds ∷ codes " current="
    ∷ decimal current ∷ []) (10 ∷ ys)) sentence)

pub other_prefixes_said : (w : Parts) (name : Name) (router : Name) (other : Name)
    → filled_in (part.Name router ∷ part.Name other ∷ [])
    (codes "other-prefixes router=0 other=1" ++ 10 ∷ (codes "0 and 1 do not use and want the same delegated prefixes." ++ 10 ∷ []))
    ≡ unsettled_words w (cause.OtherPrefixes router other) ++ 10 ∷ unsettled_sentence (name_text name) w (cause.OtherPrefixes router other)
other_prefixes_said w name router other =
    let rest = 10 ∷ unsettled_sentence (name_text name) w (cause.OtherPrefixes router other) in
    let words = as_chain (codes "other-prefixes") (router_words router ∷ codes " other=" ∷ name_text other ∷ []) rest in
    let sentence = as_chain (name_text router) (codes " and " ∷ name_text other ∷ codes " do not use and want the same delegated prefixes." ∷ []) (10 ∷ []) in
    sym (words
    ∙ ap (λ (ys : List ℕ). codes "other-prefixes" ++ ys) (router_then router (chain (codes " other=" ∷ name_text other ∷ []) rest))
    ∙ ap (λ (ys : List ℕ). codes "other-prefixes router=" ++ chain (name_text router ∷ codes " other=" ∷ name_text other ∷ []) (10 ∷ ys)) sentence)

pub stranger_said : (w : Parts) (name : Name) (router : Name) (e : EpId) (link : ℕ) (at : LinkName) → at.name ≡ slice_get w.links link
    → filled_in (part.Name name ∷ part.Name router ∷ part.Endpoint e ∷ part.Link at ∷ [])
    (codes "stranger router=1 ep=2 link=3" ++ 10 ∷ (codes "Endpoint 2 of 1, which 0 does not reach, is on the link 3 beside one that it reaches." ++ 10 ∷ []))
    ≡ unsettled_words w (cause.Stranger router e link) ++ 10 ∷ unsettled_sentence (name_text name) w (cause.Stranger router e link)
stranger_said w name router e link at is =
    let rest = 10 ∷ unsettled_sentence (name_text name) w (cause.Stranger router e link) in
    let words = as_chain (codes "stranger") (endpoint_words router e ∷ codes " link=" ∷ link_text w link ∷ []) rest in
    let sentence = as_chain (codes "Endpoint ") (decimal e.0 ∷ codes " of " ∷ name_text router ∷ codes ", which " ∷ name_text name ∷ codes " does not reach, is on the link "
    ∷ link_text w link ∷ codes " beside one that it reaches." ∷ []) (10 ∷ []) in
    ap (λ (o : Option Name). filled_in (part.Name name ∷ part.Name router ∷ part.Endpoint e ∷ part.Link (record { name = o }) ∷ []) (codes "stranger router=1 ep=2 link=3" ++ 10
    ∷ (codes "Endpoint 2 of 1, which 0 does not reach, is on the link 3 beside one that it reaches." ++ 10 ∷ []))) is
    ∙ sym (words
    ∙ ap (λ (ys : List ℕ). codes "stranger" ++ ys) (endpoint_then router e (chain (codes " link=" ∷ link_text w link ∷ []) rest))
    ∙ ap (λ (ys : List ℕ). codes "stranger router=" ++ chain (name_text router ∷ codes " ep=" ∷ decimal e.0 ∷ codes " link=" ∷ link_text w link ∷ []) (10 ∷ ys)) sentence)

pub not_linked_said : (w : Parts) (name : Name) (router : Name) (e : EpId) (other : Name) (f : EpId)
    → filled_in (part.Name router ∷ part.Endpoint e ∷ part.Name other ∷ part.Endpoint f ∷ [])
    (codes "not-linked router=0 ep=1 other=2 other-ep=3" ++ 10 ∷ (codes "Endpoint 1 of 0 and endpoint 3 of 2 are on one link, and do not have each other as peers." ++ 10 ∷ []))
    ≡ unsettled_words w (cause.NotLinked router e other f) ++ 10 ∷ unsettled_sentence (name_text name) w (cause.NotLinked router e other f)
not_linked_said w name router e other f =
    let rest = 10 ∷ unsettled_sentence (name_text name) w (cause.NotLinked router e other f) in
    let words = as_chain (codes "not-linked") (endpoint_words router e ∷ other_words other f ∷ []) rest in
    let sentence = as_chain (codes "Endpoint ") (decimal e.0 ∷ codes " of " ∷ name_text router ∷ codes " and endpoint " ∷ decimal f.0 ∷ codes " of " ∷ name_text other
    ∷ codes " are on one link, and do not have each other as peers." ∷ []) (10 ∷ []) in
    sym (words
    ∙ ap (λ (ys : List ℕ). codes "not-linked" ++ ys) (endpoint_then router e (chain (other_words other f ∷ []) rest))
    ∙ ap (λ (ys : List ℕ). codes "not-linked" ++ (codes " router=" ++ chain (name_text router ∷ codes " ep=" ∷ decimal e.0 ∷ []) ys)) (other_then other f rest)
    ∙ ap (λ (ys : List ℕ). codes "not-linked router=" ++ chain (name_text router ∷ codes " ep=" ∷ decimal e.0 ∷ codes " other=" ∷ name_text other ∷ codes " other-ep=" ∷ decimal f.0
    ∷ []) (10 ∷ ys)) sentence)

pub not_on_one_link_said : (w : Parts) (name : Name) (router : Name) (e : EpId) (other : Name) (f : EpId)
    → filled_in (part.Name router ∷ part.Endpoint e ∷ part.Name other ∷ part.Endpoint f ∷ [])
    (codes "not-on-one-link router=0 ep=1 other=2 other-ep=3" ++ 10 ∷ (codes "Endpoint 1 of 0 and endpoint 3 of 2 have each other as peers, and are not on one link." ++ 10 ∷ []))
    ≡ unsettled_words w (cause.NotOnOneLink router e other f) ++ 10 ∷ unsettled_sentence (name_text name) w (cause.NotOnOneLink router e other f)
not_on_one_link_said w name router e other f =
    let rest = 10 ∷ unsettled_sentence (name_text name) w (cause.NotOnOneLink router e other f) in
    let words = as_chain (codes "not-on-one-link") (endpoint_words router e ∷ other_words other f ∷ []) rest in
    let sentence = as_chain (codes "Endpoint ") (decimal e.0 ∷ codes " of " ∷ name_text router ∷ codes " and endpoint " ∷ decimal f.0 ∷ codes " of " ∷ name_text other
    ∷ codes " have each other as peers, and are not on one link." ∷ []) (10 ∷ []) in
    sym (words
    ∙ ap (λ (ys : List ℕ). codes "not-on-one-link" ++ ys) (endpoint_then router e (chain (other_words other f ∷ []) rest))
    ∙ ap (λ (ys : List ℕ). codes "not-on-one-link" ++ (codes " router=" ++ chain (name_text router ∷ codes " ep=" ∷ decimal e.0 ∷ []) ys)) (other_then other f rest)
    ∙ ap (λ (ys : List ℕ). codes "not-on-one-link router=" ++ chain (name_text router ∷ codes " ep=" ∷ decimal e.0 ∷ codes " other=" ∷ name_text other ∷ codes " other-ep="
    ∷ decimal f.0 ∷ []) (10 ∷ ys)) sentence)
