-- Routers and links by their names, and where routers are attached.
use Rattle.std.specs.Prelude.{◌≢◌, ℕ, Bool, ◌||◌, ◌==◌, false, List, Option, find, position, is_some}
use Rattle.std.specs.List.{AllPairs}
use Rattle.std.specs.Option.{option_map, option_map_or}
use Rattle.std.specs.Str.{bytes_eq}
use Rattle.hn_base.specs.Name.{name_text}
use Rattle.hn_base.specs.declared.name.Name.{Name}
use Rattle.hn_base.specs.declared.ids.EpId.{EpId}
use Rattle.hn_world.specs.declared.member.Member.{Member}
use Rattle.hn_world.specs.declared.member.Attachment.{Attachment}
use Rattle.hn_world.specs.declared.parts.Parts.{Parts}

-- whether a router has that name
abbrev pub is_named : List ℕ → Member → Bool
is_named name m = bytes_eq (name_text m.name) name

-- whether a link has that name
abbrev pub is_link_named : List ℕ → Name → Bool
is_link_named name link = bytes_eq (name_text link) name

-- the place of the router of a name, and of the link of a name, in order of definition
abbrev pub router_place : List ℕ → Parts → Option ℕ
router_place name w = position (is_named name) w.members

abbrev pub link_place : List ℕ → Parts → Option ℕ
link_place name w = position (is_link_named name) w.links

-- the router of a name
abbrev pub member_named : List ℕ → Parts → Option Member
member_named name w = find (is_named name) w.members

-- no two of these routers have one name
abbrev pub NamesDiffer : List Member → Type 0
NamesDiffer members = AllPairs (λ a b. name_text a.name ≢ name_text b.name) members

-- whether a name is taken, by a router or a link
abbrev pub is_taken_name : List ℕ → Parts → Bool
is_taken_name name w = is_some (router_place name w) || is_some (link_place name w)

-- whether an attachment is of that endpoint
abbrev pub is_of : EpId → Attachment → Bool
is_of endpoint a = a.endpoint.0 == endpoint.0

-- the link to which an endpoint is attached, by its place
abbrev pub link_of : EpId → Member → Option ℕ
link_of endpoint m = option_map (λ a. a.link) (find (is_of endpoint) m.attachments)

-- whether an endpoint is attached to that link
abbrev pub is_on : ℕ → Member → EpId → Bool
is_on link m endpoint = option_map_or (λ l. l == link) (link_of endpoint m) false
