-- What a line says of an event.
use Rattle.std.specs.Prelude.{ℕ, Bool, if◌then◌else◌, List, [], ◌++◌, codes, Option, None, Some}
use Rattle.std.specs.Fmt.{decimal}
use Rattle.std.specs.List.{flat_map}
use Rattle.hn_base.specs.HexText.{hex_text}
use Rattle.hn_base.specs.Name.{name_text}
use Rattle.hn_base.specs.declared.addr.Addr.{Addr}
use Rattle.hn_base.specs.declared.ids.EpId.{EpId}
use Rattle.hn_base.specs.declared.name.Name.{Name}
use Rattle.hn_lab.specs.Line.{line_of}
use Rattle.hn_own.specs.Addresses.{OwnAddress}
use Rattle.hn_prefix.specs.AddressText.{address_text_of}
use Rattle.hn_script.specs.Line.{line_text}
use Rattle.hn_script.specs.declared.line.Line.{Line}
use Rattle.hn_world.specs.declared.event.WEvent.{WEvent}
use Rattle.hn_world.specs.declared.event.WEvent.TheVariants as event

-- how a datagram comes
abbrev pub way_word : Bool → List ℕ
way_word multicast = if multicast then codes "multi" else codes "uni"

-- an own address, with the endpoint that it is of
abbrev pub address_words : OwnAddress → List ℕ
address_words a = codes " " ++ decimal a.0.0 ++ codes " " ++ address_text_of a.1

-- a router gets addresses
abbrev pub addresses_text : Name → List OwnAddress → List ℕ
addresses_text name list = codes "addresses " ++ name_text name ++ flat_map address_words list

-- a datagram arrives from outside of the world: its way, its source with the port, and its bytes
abbrev pub injection_text : Name → EpId → Addr → Bool → List ℕ → List ℕ
injection_text name endpoint from multicast bytes =
    codes "inject " ++ name_text name ++ codes " " ++ decimal endpoint.0 ++ codes " " ++ way_word multicast
    ++ codes " " ++ address_text_of from.ip ++ codes " " ++ decimal from.port ++ codes " " ++ hex_text bytes

-- an event that is no line of a script
abbrev pub other_text : WEvent → List ℕ
other_text (event.Addresses name list) = addresses_text name list
other_text (event.Inject name endpoint from multicast bytes) = injection_text name endpoint from multicast bytes
other_text _ = []

-- an event: its line as it is printed, where there is one
abbrev pub text_by : Option Line → WEvent → List ℕ
text_by (Some line) event = line_text line
text_by None event = other_text event

abbrev pub event_text : WEvent → List ℕ
event_text event = text_by (line_of event) event
