-- The lines of a script: how each is spelled, and of which versions it is.
use Rattle.std.specs.Prelude.{ℕ, ◌^◌, ◌-◌, List, [], ◌∷◌, map, codes}
use Rattle.std.specs.List.{join_with_byte}
use Rattle.hn_base.specs.declared.version.Version.{Version}
use Rattle.hn_base.specs.declared.version.Version.TheVariants.{One}
use Rattle.hn_script.specs.Field.{Field, Named, Node, Endpoint, Number, Prefixed, Capability, Way, Hex, Length, field_text}
use Rattle.hn_script.specs.Language.{Spelling, spelled, Language}
use Rattle.hn_script.specs.Texts.{space}
use Rattle.hn_script.specs.declared.line.Line.{Line}
use Rattle.hn_script.specs.declared.line.Line.TheVariants.{Router, Link, Attach, Detach, External, Withdraw, Caps, Stop, Start, Seed, Loss, Time, Tick, Run, Deliver, Drop, Flow, Inject, Show, Hash}
use Rattle.hn_script.specs.declared.line.Line.TheVariants.{Used, Prefixes, Elect, Advert, Audit, Compare, Mail, Private, Sync, Address, Addresses, Addressed, Ula, Ulas, Radv, Solicit}

-- a number of 64 bits
abbrev pub any_number : ℕ → Field
any_number n = Number 0 (2 ^ 64 - 1) n

-- a moment, or a span of time, in milliseconds
abbrev pub time_from : ℕ → ℕ → Field
time_from lowest t = Number lowest (2 ^ 48) t

-- a priority of capabilities
abbrev pub priority : ℕ → Field
priority p = Number 0 7 p

-- a lifetime in seconds
abbrev pub lifetime : ℕ → Field
lifetime seconds = Number 0 (2 ^ 32 - 1) seconds

-- how each line is spelled; the preferred lifetime of a delegated prefix is not above its valid lifetime
abbrev pub line_spelling : Line → Spelling
line_spelling (Router name id) = spelled (codes "router") (Named name ∷ Node id ∷ [])
line_spelling (Link name) = spelled (codes "link") (Named name ∷ [])
line_spelling (Attach name e link) = spelled (codes "attach") (Named name ∷ Endpoint e ∷ Named link ∷ [])
line_spelling (Detach name e) = spelled (codes "detach") (Named name ∷ Endpoint e ∷ [])
line_spelling (External name prefix valid preferred) = spelled (codes "external") (Named name ∷ Prefixed prefix ∷ lifetime valid ∷ Number 0 valid preferred ∷ [])
line_spelling (Withdraw name prefix) = spelled (codes "withdraw") (Named name ∷ Prefixed prefix ∷ [])
line_spelling (Caps name c) = spelled (codes "caps") (Named name ∷ priority c.m ∷ priority c.p ∷ priority c.h ∷ priority c.l ∷ [])
line_spelling (Stop name) = spelled (codes "stop") (Named name ∷ [])
line_spelling (Start name) = spelled (codes "start") (Named name ∷ [])
line_spelling (Seed n) = spelled (codes "seed") (any_number n ∷ [])
line_spelling (Loss percent) = spelled (codes "loss") (Number 0 100 percent ∷ [])
line_spelling (Time t) = spelled (codes "time") (time_from 0 t ∷ [])
line_spelling (Tick name) = spelled (codes "tick") (Named name ∷ [])
line_spelling (Run t step) = spelled (codes "run") (time_from 0 t ∷ time_from 1 step ∷ [])
line_spelling (Deliver copy) = spelled (codes "deliver") (any_number copy ∷ [])
line_spelling (Drop copy) = spelled (codes "drop") (any_number copy ∷ [])
line_spelling Flow = spelled (codes "flow") []
line_spelling (Inject name e how bytes) = spelled (codes "inject") (Named name ∷ Endpoint e ∷ Way how ∷ Hex bytes ∷ [])
line_spelling (Show name) = spelled (codes "show") (Named name ∷ [])
line_spelling (Hash name) = spelled (codes "hash") (Named name ∷ [])
line_spelling (Used name) = spelled (codes "used") (Named name ∷ [])
line_spelling (Prefixes name) = spelled (codes "prefixes") (Named name ∷ [])
line_spelling (Elect name e letter) = spelled (codes "elect") (Named name ∷ Endpoint e ∷ Capability letter ∷ [])
line_spelling (Advert name e) = spelled (codes "advert") (Named name ∷ Endpoint e ∷ [])
line_spelling (Audit name) = spelled (codes "audit") (Named name ∷ [])
line_spelling (Compare left right) = spelled (codes "compare") (Named left ∷ Named right ∷ [])
line_spelling Mail = spelled (codes "mail") []
line_spelling (Private name bits) = spelled (codes "private") (Named name ∷ Length bits ∷ [])
line_spelling (Sync left right) = spelled (codes "sync") (Named left ∷ Named right ∷ [])
line_spelling (Address name) = spelled (codes "address") (Named name ∷ [])
line_spelling (Addresses name) = spelled (codes "addresses") (Named name ∷ [])
line_spelling (Addressed name) = spelled (codes "addressed") (Named name ∷ [])
line_spelling (Ula name) = spelled (codes "ula") (Named name ∷ [])
line_spelling (Ulas name) = spelled (codes "ulas") (Named name ∷ [])
line_spelling (Radv name e) = spelled (codes "radv") (Named name ∷ Endpoint e ∷ [])
line_spelling (Solicit name e) = spelled (codes "solicit") (Named name ∷ Endpoint e ∷ [])

-- whether a line is of a version: some words are of version 2 alone
abbrev pub IsOfVersion : Version → Line → Type 0
IsOfVersion One (Private name bits) = ⊥
IsOfVersion One (Address name) = ⊥
IsOfVersion One (Addresses name) = ⊥
IsOfVersion One (Addressed name) = ⊥
IsOfVersion One (Ula name) = ⊥
IsOfVersion One (Ulas name) = ⊥
IsOfVersion One (Sync left right) = ⊥
IsOfVersion One (Radv name e) = ⊥
IsOfVersion One (Solicit name e) = ⊥
IsOfVersion _ _ = Unit {0}

-- the language of the lines of a version
abbrev pub of_version : Version → Language Line
of_version version = record { spelling = line_spelling; has = IsOfVersion version }

-- the language of the lines of all versions
abbrev pub every_line : Language Line
every_line = record { spelling = line_spelling; has = λ _. Unit {0} }

-- the text that is printed for the values of a line: each after a space
abbrev pub values_text : List Field → List ℕ
values_text [] = []
values_text (field ∷ fields) = space ∷ join_with_byte space (map field_text (field ∷ fields))

-- the text that is printed for a line
abbrev pub line_text : Line → List ℕ
line_text line = join_with_byte space ((line_spelling line).first ∷ map field_text (line_spelling line).fields)
