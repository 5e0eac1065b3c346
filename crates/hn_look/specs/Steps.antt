-- What is told of an event that happened in a world.
use Rattle.std.specs.Prelude.{ℕ, ◌+◌, ◌-◌, ◌/◌, ◌%◌, ◌^◌, List, [], ◌∷◌, ◌++◌, drop, codes, Option, None, Some}
use Rattle.std.specs.Fmt.{decimal}
use Rattle.std.specs.List.{flat_map, slice_get}
use Rattle.std.specs.Option.{option_map}
use Rattle.hn_base.specs.HexText.{hex_text}
use Rattle.hn_base.specs.Name.{name_text}
use Rattle.hn_base.specs.declared.addr.Addr.{Addr}
use Rattle.hn_base.specs.declared.name.Name.{Name}
use Rattle.hn_lab.specs.Line.{receiver}
use Rattle.hn_play.specs.Notes.{note_line}
use Rattle.hn_rules.specs.declared.done.Note.{Note}
use Rattle.hn_rules.specs.declared.done.Publication.{Publication}
use Rattle.hn_world.specs.declared.copies.MailCopy.{MailCopy}
use Rattle.hn_world.specs.declared.event.WEvent.{WEvent}
use Rattle.hn_world.specs.declared.event.WEvent.TheVariants as event
use Rattle.hn_world.specs.declared.parts.Parts.{Parts}
use Rattle.hn_world.specs.Routed.{named_by}
use Rattle.hn_why.specs.Words.{name_or_dash}
use Rattle.hn_look.specs.Events.{way_word, event_text}

-- the router at which an event happened: the new one, the one that a copy went to, or the one that the event names
abbrev pub actor : WEvent → Parts → Option Name
actor (event.Router name id) w = Some name
actor (event.Deliver copy) w = receiver w copy
actor event w = named_by event

-- an endpoint of the router at a place: its name, `-` where there is none, and its number
abbrev pub endpoint_text : Option Name → ℕ → List ℕ
endpoint_text name endpoint = name_or_dash name ++ codes ":" ++ decimal endpoint

abbrev pub place_text : Parts → ℕ → ℕ → List ℕ
place_text w place endpoint = endpoint_text (option_map (λ m. m.name) (slice_get w.members place)) endpoint

-- The router and the endpoint that a copy is from, by the address: fe80::, then 32 bits of the router's place in order of
-- definition, counted from 1, and 32 bits of the endpoint.
abbrev pub sender_place : Addr → ℕ
sender_place from = from.ip / 2 ^ 32 % 2 ^ 32 - 1

abbrev pub sender_endpoint : Addr → ℕ
sender_endpoint from = from.ip % 2 ^ 32

-- the line of a copy, with its number
abbrev pub copy_line : Parts → ℕ → MailCopy → List ℕ
copy_line w number c =
    codes "  copy " ++ decimal number ++ codes " " ++ place_text w (sender_place c.from) (sender_endpoint c.from)
    ++ codes " > " ++ place_text w c.to.place c.to.endpoint.0 ++ codes " " ++ way_word c.multicast ++ codes " " ++ hex_text c.bytes ++ 10 ∷ []

-- the lines of copies that were made one after another, after so many others
abbrev pub copy_lines : Parts → ℕ → List MailCopy → List ℕ
copy_lines w made [] = []
copy_lines w made (c ∷ copies) = copy_line w (made + 1) c ++ copy_lines w (made + 1) copies

-- the line of a note, and that of a publication, of the router of a name
abbrev pub noted_line : Name → Note → List ℕ
noted_line name note = codes "  " ++ note_line name note

abbrev pub published_line : Name → Publication → List ℕ
published_line name p = codes "  publish " ++ name_text name ++ codes " number=" ++ decimal p.number ++ 10 ∷ []

-- what a router noted and published; where no router acted, that is nothing
abbrev pub told_lines : Option Name → List Note → List Publication → List ℕ
told_lines None notes published = []
told_lines (Some name) notes published = flat_map (noted_line name) notes ++ flat_map (published_line name) published

-- What is told of an event: the moment after it and the event; the copies that it made, what its router noted, and what that
-- published. So many copies were made before it, and so much was published.
abbrev pub step_text : WEvent → List Note → ℕ → ℕ → Parts → List ℕ
step_text event notes copies published after =
    decimal after.moment ++ codes " " ++ event_text event
    ++ 10 ∷ (copy_lines after copies (drop copies after.copies) ++ told_lines (actor event after) notes (drop published after.published))
