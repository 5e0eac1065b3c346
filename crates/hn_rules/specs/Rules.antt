-- Rules of a router.
use Rattle.std.specs.Prelude.{ℕ, List, [], ◌∷◌, ◌++◌, Option, None}
use Rattle.hn_base.specs.Rules.{RuleOf, OnSome, RanBy, IsSoleBy, IsTotalBy, IsExactBy}
use Rattle.hn_base.specs.declared.ids.EpId.{EpId}
use Rattle.hn_dncp.specs.declared.port.Port.{Port}
use Rattle.hn_rules.specs.declared.done.Note.{Note}
use Rattle.hn_rules.specs.declared.state.State.{State}
use Rattle.hn_rules.specs.Done.{nothing}
use Rattle.hn_rules.specs.declared.running.Running.{Running}
use Rattle.hn_own.specs.Ports.{port_at, put_port}

-- where an event begins: nothing has come of it yet
abbrev pub begun_at : ℕ → State → Running
begun_at now s = record { state = record s { moment = now }; done = nothing; sender = None; answers = [] }

-- A rule relates a router in the middle of an event, with what came of it so far, before and after.
abbrev pub Rule : Type 1
Rule = RuleOf Running

-- the rule of an endpoint as it is; where it is not attached, nothing happens
abbrev pub AtPort : EpId → (Port → Rule) → Rule
AtPort at rule before after = OnSome rule (port_at at before.state.ports) before after

-- the words that were taken so far
abbrev pub words_taken : Running → List ℕ
words_taken r = r.done.words

-- a rule ran, and a draw that told these words before and after moved by exactly the words that the rule took
abbrev pub Ran : Rule → Option (ℕ → ℕ) → Option (ℕ → ℕ) → Running → Running → Type 0
Ran = RanBy words_taken

-- a rule gives no word back, and over one stream of words it has at most one result
abbrev pub IsSole : Rule → Type 0
IsSole = IsSoleBy words_taken

-- where a fact holds before, it cannot be that a rule has no result over a stream of words that begins with those taken
abbrev pub IsTotal : (Running → Type 0) → Rule → Type 0
IsTotal = IsTotalBy words_taken

-- where a fact holds before, a rule has exactly one result over a stream of words that begins with those taken
abbrev pub IsExactRule : (Running → Type 0) → Rule → Type 0
IsExactRule = IsExactBy words_taken

-- with more words taken
abbrev pub with_words : List ℕ → Running → Running
with_words words r = record r { done = record r.done { words = r.done.words ++ words } }

-- a note is taken
abbrev pub noted : Note → Running → Running
noted note r = record r { done = record r.done { notes = r.done.notes ++ note ∷ [] } }

-- an endpoint is changed
abbrev pub with_port : Port → Running → Running
with_port port r = record r { state = record r.state { ports = put_port port r.state.ports } }
