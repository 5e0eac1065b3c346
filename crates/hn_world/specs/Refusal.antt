-- Which events a world refuses, with which code.
use Rattle.std.specs.Prelude.{ℕ, ◌+◌, ◌-◌, ◌^◌, Bool, true, false, ◌||◌, ◌&&◌, ◌==◌, not, nat_lt, nat_le, if◌then◌else◌, List, [], ◌∷◌, length, find, Option, None, is_some, is_none}
use Rattle.std.specs.List.{list_any, slice_get}
use Rattle.std.specs.Option.{option_and_then, option_map, option_map_or}
use Rattle.hn_base.specs.Name.{name_text}
use Rattle.hn_base.specs.declared.ids.EpId.{EpId}
use Rattle.hn_own.specs.Addresses.{may_address}
use Rattle.hn_own.specs.Ports.{is_attached}
use Rattle.hn_own.specs.OwnPrefixes.{may_delegate}
use Rattle.hn_world.specs.declared.copies.MailCopy.{MailCopy}
use Rattle.hn_world.specs.declared.event.WEvent.{WEvent}
use Rattle.hn_world.specs.declared.event.WEvent.TheVariants as event
use Rattle.hn_world.specs.declared.member.Member.{Member}
use Rattle.hn_world.specs.declared.parts.Parts.{Parts}
use Rattle.hn_world.specs.Injected.{injected_of}
use Rattle.hn_world.specs.Limits.{most_routers}
use Rattle.hn_world.specs.Names.{is_taken_name, member_named, link_place}
use Rattle.hn_world.specs.Routed.{named_by}
use Rattle.hn_world.specs.Waiting.{bytes_of_copies}

-- whether it is so of what is there
abbrev pub so_of : {A : Type 0} → (A → Bool) → Option A → Bool
so_of asked it = option_map_or asked it false

-- the copy of a number; numbers of copies begin with 1
abbrev pub copy_at : Parts → ℕ → Option MailCopy
copy_at w copy = if copy == 0 then None else slice_get w.copies (copy - 1)

-- the router that an event names, if it is there
abbrev pub named_member : WEvent → Parts → Option Member
named_member event w = option_and_then (λ name. member_named (name_text name) w) (named_by event)

-- the router at which an event happens, if it is there: the one to which its copy goes, or the one that it names
abbrev pub acting : WEvent → Parts → Option Member
acting (event.Deliver copy) w = option_and_then (λ c. slice_get w.members c.to.place) (copy_at w copy)
acting event w = named_member event w

-- 7: a name is unknown, or names the other kind; the router of a copy is not there
abbrev pub names_nothing : WEvent → Parts → Option Member → Bool
names_nothing (event.Attach name endpoint link) w router = is_none router || is_none (link_place (name_text link) w)
names_nothing (event.Deliver copy) w router = is_some (copy_at w copy) && is_none router
names_nothing event w router = is_some (named_by event) && is_none router

-- 8: the name of a new router or link is taken
abbrev pub takes_a_name : WEvent → Parts → Bool
takes_a_name (event.Router name id) w = is_taken_name (name_text name) w
takes_a_name (event.Link name) w = is_taken_name (name_text name) w
takes_a_name _ w = false

-- 12: the router is stopped
abbrev pub is_stopped : WEvent → Option Member → Bool
is_stopped (event.Start name) router = false
is_stopped _ router = so_of (λ m. not m.running) router

-- 11: the endpoint is in use, or it is not attached
abbrev pub is_detached : EpId → Option Member → Bool
is_detached endpoint router = so_of (λ m. not (is_attached endpoint m.router.ports)) router

abbrev pub lacks_the_endpoint : WEvent → Parts → Option Member → Bool
lacks_the_endpoint (event.Attach name endpoint link) w router = so_of (λ m. is_attached endpoint m.router.ports) router
lacks_the_endpoint (event.Detach name endpoint) w router = is_detached endpoint router
lacks_the_endpoint (event.Inject name endpoint from multicast bytes) w router = is_detached endpoint router
lacks_the_endpoint (event.Deliver copy) w router = so_of (λ c. is_detached c.to.endpoint router) (copy_at w copy)
lacks_the_endpoint _ w router = false

-- 19: the list may not be the addresses of the router
abbrev pub may_not_address : WEvent → Option Member → Bool
may_not_address (event.Addresses name list) router = so_of (λ m. not (may_address list m.router.ports)) router
may_not_address _ router = false

-- 14: the router already has an endpoint on that link
abbrev pub joins_twice : WEvent → Parts → Option Member → Bool
joins_twice (event.Attach name endpoint link) w router = so_of (λ m. so_of (λ at. list_any (λ a. a.link == at) m.attachments) (link_place (name_text link) w)) router
joins_twice _ w router = false

-- 13: there is no such copy
abbrev pub lacks_a_copy : WEvent → Parts → Bool
lacks_a_copy (event.Deliver copy) w = is_none (copy_at w copy)
lacks_a_copy (event.Drop copy) w = is_none (copy_at w copy)
lacks_a_copy _ w = false

-- 10: the moment would fall
abbrev pub goes_back : WEvent → Parts → Bool
goes_back (event.Time moment) w = nat_lt moment w.moment
goes_back _ w = false

-- 9: one router, link, endpoint of a router or delegated prefix of it too many
abbrev pub lacks_room : WEvent → Parts → Option Member → Bool
lacks_room (event.Router name id) w router = nat_le (most_routers w.version) (length w.members)
lacks_room (event.Link name) w router = nat_le 64 (length w.links)
lacks_room (event.Attach name endpoint link) w router = so_of (λ m. not (nat_lt (length m.router.ports) 16)) router
lacks_room (event.External name prefix valid preferred) w router = so_of (λ m. not (may_delegate prefix m.router.delegated)) router
lacks_room _ w router = false

-- 16: 1,000,000 copies or more were made, or the copies and the injected datagrams together have 2^28 bytes or more
abbrev pub is_full_of_mail : Parts → Bool
is_full_of_mail w = nat_le 1000000 (length w.copies) || nat_le (2 ^ 28) (bytes_of_copies w.copies + injected_of w.trace)

-- and the router may answer
abbrev pub may_answer : WEvent → Bool
may_answer (event.Tick name) = true
may_answer (event.Deliver copy) = true
may_answer (event.Inject name endpoint from multicast bytes) = true
may_answer _ = false

-- the code of the first that is so
abbrev pub first_code : List (ℕ × Bool) → Option ℕ
first_code conditions = option_map (λ c. c.0) (find (λ c. c.1) conditions)

-- the code with which an event is refused that happens at this router, if at one; 9 is also the code of one event too many
abbrev pub refusal_at : WEvent → Parts → Option Member → Option ℕ
refusal_at event w router = first_code (
    (7, names_nothing event w router) ∷
    (8, takes_a_name event w) ∷
    (12, is_stopped event router) ∷
    (11, lacks_the_endpoint event w router) ∷
    (19, may_not_address event router) ∷
    (14, joins_twice event w router) ∷
    (13, lacks_a_copy event w) ∷
    (10, goes_back event w) ∷
    (9, lacks_room event w router || nat_le 1000000 (length w.trace)) ∷
    (16, may_answer event && is_full_of_mail w) ∷ [])

-- an event that is accepted has no code
abbrev pub refusal : Parts → WEvent → Option ℕ
refusal w event = refusal_at event w (acting event w)
