-- The lines on what routers noted. docs/FORMATS.md has the table.
use Rattle.std.specs.Prelude.{ℕ, List, [], ◌∷◌, ◌++◌, codes}
use Rattle.std.specs.Fmt.{decimal}
use Rattle.hn_base.specs.HexText.{id_text}
use Rattle.hn_base.specs.Name.{name_text}
use Rattle.hn_base.specs.declared.name.Name.{Name}
use Rattle.hn_rules.specs.declared.done.Note.{Note}
use Rattle.hn_store.specs.declared.state.Took.{Took}
use Rattle.hn_rules.specs.declared.done.Note.TheVariants as note
use Rattle.hn_store.specs.declared.state.Took.TheVariants as took

-- what came of the state of another node
abbrev pub took_text : Took → List ℕ
took_text took.Kept = codes "kept"
took_text took.Renumbered = codes "renumbered"
took_text took.Ask = codes "ask"
took_text took.Stale = codes "stale"
took_text took.BadHash = codes "badhash"
took_text took.BadBody = codes "badbody"
took_text took.TooLong = codes "long"
took_text took.Full = codes "full"
took_text took.Own = codes "own"

-- what a router noted
abbrev pub note_text : Note → List ℕ
note_text note.Far = codes "far"
note_text (note.Malformed place why) = codes "malformed place=" ++ decimal place ++ codes " why=" ++ decimal why
note_text (note.Ignored kind why) = codes "ignored kind=" ++ decimal kind ++ codes " why=" ++ decimal why
note_text (note.Took node how) = codes "took node=" ++ id_text node.0 ++ codes " " ++ took_text how
note_text (note.Own number) = codes "own number=" ++ decimal number
note_text note.PeersFull = codes "peers-full"
note_text note.Refused = codes "refused"

-- of the router of this name
abbrev pub note_line : Name → Note → List ℕ
note_line name n = codes "note " ++ name_text name ++ codes " " ++ note_text n ++ 10 ∷ []
