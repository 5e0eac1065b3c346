-- What `node` comes to: a router is set up by its file, and served.
use Rattle.std.specs.Prelude.{◌≡◌, ◌≢◌, ◌⊎◌, ◌≤◌, All, ℕ, Bool, true, false, not, List, [], ◌∷◌, ◌++◌, ◌-◌, ◌^◌, length, min, take, codes, Option, None, Some}
use Rattle.std.specs.Fmt.{decimal}
use Rattle.std.specs.Io.KnownBytes.{Appends}
use Rattle.rand_core.specs.Pcg32Seed.{pcg32_seed}
use Rattle.rand_pcg.specs.Pcg.{pcg32_of_seed}
use Rattle.hn_base.specs.HexText.{id_text}
use Rattle.hn_base.specs.Input.{IsWhole}
use Rattle.hn_base.specs.Words.{Begins}
use Rattle.hn_base.specs.declared.ids.NodeId.{NodeId}
use Rattle.hn_io.specs.Pcg.{pcg_word}
use Rattle.hn_streams.specs.Output.{IsPart, IsFrontOf}
use Rattle.hn_streams.specs.Refusal.{refused_line}
use Rattle.hn_node.specs.Turns.{PlainSite, Serving, serving, AreTurns, CutTurns, StarvesTurns, handed_in, arrivals_in, logged_words}
use Rattle.hn_node.specs.declared.served.ServeEnd.TheVariants as ending
use Rattle.hn_node.specs.declared.served.Served.{Served}
use Rattle.hn_own.specs.OwnPrefixes.{may_delegate}
use Rattle.hn_router.specs.Act.{PlainEvent, Attach, External, SetCaps, Happened}
use Rattle.hn_router.specs.New.{IsNew}
use Rattle.hn_rules.specs.declared.done.Done.{Done}
use Rattle.hn_rules.specs.declared.state.State.{State}
use Rattle.hn_script.specs.NodeFile.{IsNodeFile, IsFirstNodeFault}
use Rattle.hn_script.specs.declared.fault.ScriptFault.{ScriptFault}
use Rattle.hn_script.specs.declared.node_file.NodeLine.{NodeLine}
use Rattle.hn_script.specs.declared.node_file.NodeLine.TheVariants as line
use Rattle.hn_wire.specs.Clocks.{ReadsClock}
use Rattle.hn_wire.specs.declared.datagram.Datagram.{Datagram}
use Rattle.hn_forms.specs.declared.words.NodeCall.{NodeCall}

-- a call, with the list of its peers' ports
pub record PlainCall : Type 0 where
  pub id : NodeId
  pub port : ℕ
  pub turns : ℕ
  pub seed : ℕ
  pub peers : List ℕ

abbrev pub plain_call : NodeCall → PlainCall
plain_call call = record { id = call.id; port = call.port; turns = call.turns; seed = call.seed; peers = take call.count call.peers }

-- what holds of a call that the words of the command line are
pub record IsCall (call : NodeCall) : Type 0 where
  pub port : call.port ≤ 65534
  pub turns : call.turns ≤ 100000
  pub count : call.count ≤ 8
  pub peers : All (λ peer. peer ≤ 65534) (take call.count call.peers)

abbrev pub site_of : PlainCall → PlainSite
site_of call = record { port = call.port; peers = call.peers }

-- ---- setting up

-- a line of the file, as an event
abbrev pub node_event_of : NodeLine → PlainEvent
node_event_of (line.Caps caps) = SetCaps caps
node_event_of (line.External prefix valid preferred) = External prefix valid preferred

-- a line is a delegated prefix that a router may not have, since it has eight others
abbrev pub is_too_many : State → NodeLine → Bool
is_too_many s (line.Caps caps) = false
is_too_many s (line.External prefix valid preferred) = not (may_delegate prefix s.delegated)

-- lines happen to a router one after another, at one moment, and take these words; none is a prefix too many
abbrev pub LinesHappen : ℕ → List (ℕ × NodeLine) → List ℕ → State → State → Type 0
LinesHappen now [] words before after = (words ≡ []) × (after ≡ before)
LinesHappen now (l ∷ lines) words before after =
    (between : State) × (done : Done) × (rest : List ℕ) × (is_too_many before l.1 ≡ false)
    × Happened now (node_event_of l.1) before between done × (words ≡ done.words ++ rest) × LinesHappen now lines rest between after

-- the router that is served: a new one, endpoint 1 is attached, and the lines of the file happen to it
pub record IsSetUp (id : NodeId) (lines : List (ℕ × NodeLine)) (now : ℕ) (words : List ℕ) (router : State) : Type 0 where
  pub new : State
  pub is_new : IsNew id 256 now new
  pub attached : State
  pub done : Done
  pub attaches : Happened now (Attach (record { 0 = 1 })) new attached done
  pub rest : List ℕ
  pub words_are : words ≡ done.words ++ rest
  pub happen : LinesHappen now lines rest attached router

-- the line of this number is a ninth prefix: the lines before it set a router up that may not have it
pub record IsOverfull (id : NodeId) (lines : List (ℕ × NodeLine)) (now number : ℕ) : Type 0 where
  pub front : List (ℕ × NodeLine)
  pub line : NodeLine
  pub rest : List (ℕ × NodeLine)
  pub words : List ℕ
  pub router : State
  pub lines_are : lines ≡ front ++ (number, line) ∷ rest
  pub set_up : IsSetUp id front now words router
  pub full : is_too_many router line ≡ true

-- ---- serving

-- a wire and a clock, as far as they tell
pub record Outside : Type 0 where
  pub waiting : Option (List Datagram)
  pub readings : Option (List ℕ)

-- the line on a router that was served
abbrev pub node_line : NodeId → ℕ → ℕ → ℕ → ℕ → List ℕ
node_line id number reach taken sent =
    codes "node id=" ++ id_text id.0 ++ codes " number=" ++ decimal number ++ codes " reach=" ++ decimal reach
    ++ codes " taken=" ++ decimal taken ++ codes " sent=" ++ decimal sent ++ 10 ∷ []

abbrev pub served_line : Served → List ℕ
served_line s = node_line s.router.id s.router.number (length s.router.reach) s.taken s.sent

-- the status of a line that was to be written: this one where it was written whole, 4 where the sink failed, 6 where memory
-- ended
abbrev pub IsStatusOf : ℕ → ℕ → Type 0
IsStatusOf whole status = (status ≡ whole) ⊎ ((status ≡ 4) ⊎ (status ≡ 6))

-- how the turns ended, the status, and the text: all were made; or the wire failed, and nothing is written
abbrev pub EndsServing : PlainCall → ℕ → Served → Serving → Serving → Option (List ℕ) → Option (List ℕ) → List ℕ → Type 0
EndsServing call status s first last readings rest text =
    ((s.end ≡ ending.Turns) × AreTurns (site_of call) call.turns s.log first last readings rest
    × (s.sent ≡ min (length (handed_in (site_of call) s.log)) (2 ^ 64 - 1)) × IsStatusOf 0 status × (text ≡ served_line s))
    ⊎ ((s.end ≡ ending.WireFault)
    × ((handed : List Datagram) × CutTurns (site_of call) call.turns s.log handed first last readings rest × (s.sent ≡ min (length handed) (2 ^ 64 - 1)))
    × (status ≡ 5) × (text ≡ []))

-- a file with these lines: the router is made at the clock's first reading, set up, and served, with the words of the seed
pub record IsServed (call : PlainCall) (bytes : List ℕ) (status : ℕ) (s : Served) (before after : Outside) (text : List ℕ) : Type 0 where
  pub lines : List (ℕ × NodeLine)
  pub file : IsNodeFile lines bytes
  pub now : ℕ
  pub readings : Option (List ℕ)
  pub reads : ReadsClock before.readings now readings
  pub words : List ℕ
  pub router : State
  pub set_up : IsSetUp call.id lines now words router
  pub drew : Begins (words ++ logged_words s.log) (pcg_word (pcg32_of_seed (pcg32_seed 16 call.seed)))
  pub taken_is : s.taken ≡ arrivals_in s.log
  pub ends : EndsServing call status s (serving router before.waiting) (serving s.router after.waiting) readings after.readings text

-- a file that is refused: by its first fault, and the clock is not read; or at a ninth prefix, at the clock's first reading
abbrev pub IsNodeRefusal : PlainCall → List ℕ → ℕ → ℕ → Option (List ℕ) → Option (List ℕ) → Type 0
IsNodeRefusal call bytes number code readings rest =
    ((fault : ScriptFault) × IsFirstNodeFault fault bytes × (number ≡ fault.line) × (code ≡ fault.code) × (rest ≡ readings))
    ⊎ ((lines : List (ℕ × NodeLine)) × (now : ℕ) × IsNodeFile lines bytes × ReadsClock readings now rest × IsOverfull call.id lines now number × (code ≡ 9))

-- its line is the text, and nothing is sent
pub record IsRefusedNode (call : PlainCall) (bytes : List ℕ) (status : ℕ) (served : Option Served) (before after : Outside) (text : List ℕ) : Type 0 where
  pub number : ℕ
  pub code : ℕ
  pub refused : IsNodeRefusal call bytes number code before.readings after.readings
  pub status_is : IsStatusOf 2 status
  pub unserved : served ≡ None
  pub unsent : after.waiting ≡ before.waiting
  pub text_is : text ≡ refused_line number code

-- it was served, and with status 6 that is all that is known
pub record IsServedNode (call : PlainCall) (bytes : List ℕ) (status : ℕ) (served : Option Served) (before after : Outside) (text : List ℕ) : Type 0 where
  pub s : Served
  pub is_served : IsServed call bytes status s before after text
  pub served_is : ((status ≡ 6) × (served ≡ None)) ⊎ ((status ≢ 6) × (served ≡ Some s))

-- memory ended in the turns of the router that a file sets up: what was sent and taken is what turns send and take
pub record StarvesServing (call : PlainCall) (bytes : List ℕ) (before after : Outside) : Type 0 where
  pub lines : List (ℕ × NodeLine)
  pub file : IsNodeFile lines bytes
  pub now : ℕ
  pub readings : Option (List ℕ)
  pub reads : ReadsClock before.readings now readings
  pub words : List ℕ
  pub router : State
  pub set_up : IsSetUp call.id lines now words router
  pub starves : StarvesTurns (site_of call) call.turns (serving router before.waiting) after.waiting readings after.readings

-- out of memory before there was a text: nothing is sent, or memory ended in the turns
pub record IsUnservedNode (call : PlainCall) (bytes : List ℕ) (status : ℕ) (served : Option Served) (before after : Outside) (text : List ℕ) : Type 0 where
  pub status_is : status ≡ 6
  pub unserved : served ≡ None
  pub text_is : text ≡ []
  pub wire : (after.waiting ≡ before.waiting) ⊎ StarvesServing call bytes before after

abbrev pub MakesNode : PlainCall → List ℕ → ℕ → Option Served → Outside → Outside → List ℕ → Type 0
MakesNode call bytes status served before after text =
    IsRefusedNode call bytes status served before after text
    ⊎ (IsServedNode call bytes status served before after text ⊎ IsUnservedNode call bytes status served before after text)

-- what a sink holds of a line, by the status: a proper front where the sink failed, a front where memory ended, else all
abbrev pub LineHolds : ℕ → List ℕ → List ℕ → Type 0
LineHolds status line written =
    ((status ≡ 4) × IsPart written line) ⊎ (((status ≡ 6) × IsFrontOf written line) ⊎ ((status ≢ 4) × (status ≢ 6) × (written ≡ line)))

-- what excludes a status: a first fault, a ninth prefix, and that the file has neither
pub record StatusOfNode (call : PlainCall) (bytes : List ℕ) (status : ℕ) : Type 0 where
  pub no_file : (fault : ScriptFault) → IsFirstNodeFault fault bytes → (status ≢ 0) × (status ≢ 5)
  pub overfull : (lines : List (ℕ × NodeLine)) (now number : ℕ) → IsNodeFile lines bytes → IsOverfull call.id lines now number → (status ≢ 0) × (status ≢ 5)
  pub done : (lines : List (ℕ × NodeLine)) → IsNodeFile lines bytes → ((now number : ℕ) → ¬ IsOverfull call.id lines now number) → status ≢ 2

-- what `node` comes to, by the bytes that its source has left, where it tells them
pub record IsNodeRun (call : PlainCall) (left : Option (List ℕ)) (status : ℕ) (served : Option Served) (outside outside_after : Outside) (before after : Option (List ℕ)) : Type 0 where
  pub bytes : List ℕ
  pub are_whole : IsWhole left bytes
  pub text : List ℕ
  pub makes : MakesNode call bytes status served outside outside_after text
  pub only : StatusOfNode call bytes status
  pub written : List ℕ
  pub holds : LineHolds status text written
  pub appends : Appends before after written
