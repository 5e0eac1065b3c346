-- The turns of a node: in each it reads its clock, takes a datagram, lets it arrive, ticks, and sends what comes of it.
use Rattle.std.specs.Prelude.{◌≡◌, ◌⊎◌, ℕ, zero, suc, ◌+◌, ◌*◌, ◌^◌, ◌<◌, ◌≤◌, Bool, true, false, ⊤, List, [], ◌∷◌, ◌++◌, map, length, count_by, Option, None, Some, Result, Ok, Err, All}
use Rattle.std.specs.List.{flat_map}
use Rattle.hn_base.specs.declared.addr.Addr.{Addr}
use Rattle.hn_base.specs.declared.memory.NoMemory.{NoMemory}
use Rattle.hn_wire.specs.declared.datagram.Datagram.{Datagram}
use Rattle.hn_wire.specs.Wires.{Arrived, TakesAt}
use Rattle.hn_wire.specs.Clocks.{ReadsClock}
use Rattle.hn_rules.specs.declared.done.Done.{Done}
use Rattle.hn_rules.specs.declared.done.Outgoing.{Outgoing}
use Rattle.hn_rules.specs.declared.state.State.{State}
use Rattle.hn_router.specs.Act.{PlainEvent, Arrive, Tick, Happened}
use Rattle.hn_node.specs.declared.logged.Logged.{Logged}
use Rattle.hn_node.specs.declared.logged.NodeEvent.{NodeEvent}
use Rattle.hn_node.specs.declared.logged.NodeEvent.TheVariants as node
use Rattle.hn_node.specs.declared.served.ServeEnd.TheVariants as serve_end
use Rattle.hn_node.specs.declared.served.Served.{Served}

-- the port of a node, and those of its peers
pub record PlainSite : Type 0 where
  pub port : ℕ
  pub peers : List ℕ

-- a node in its turns: its router, and the datagrams that wait, where the wire tells them
pub record Serving : Type 0 where
  pub router : State
  pub waiting : Option (List Datagram)

abbrev pub serving : State → Option (List Datagram) → Serving
serving router waiting = record { router = router; waiting = waiting }

-- ---- what is handed to the wire

-- a unicast to the port of its address, a multicast to the port after that of each peer
abbrev pub handed_to : PlainSite → Option Addr → List ℕ → List Datagram
handed_to at None bytes = map (λ peer. record { from = at.port; to = peer + 1; bytes = bytes }) at.peers
handed_to at (Some to) bytes = record { from = at.port; to = to.port; bytes = bytes } ∷ []

abbrev pub handed_by : PlainSite → Outgoing → List Datagram
handed_by at send = handed_to at send.to send.bytes

abbrev pub handed_of : PlainSite → List Outgoing → List Datagram
handed_of at sends = flat_map (handed_by at) sends

-- of a whole log
abbrev pub handed_in : PlainSite → List Logged → List Datagram
handed_in at log = flat_map (λ l. handed_of at l.sends) log

-- datagrams were sent, one after another
abbrev pub SendsAll : List Datagram → Option (List Datagram) → Option (List Datagram) → Type 0
SendsAll ds None after = ⊤
SendsAll ds (Some before) None = ⊥
SendsAll ds (Some before) (Some after) = after ≡ before ++ ds

-- of datagrams only these were sent, a proper front
pub record SendsPart (ds front : List Datagram) (before after : Option (List Datagram)) : Type 0 where
  pub missing : List Datagram
  pub some : 0 < length missing
  pub parts : ds ≡ front ++ missing
  pub sends : SendsAll front before after

-- ---- what is taken

-- the address that a source port stands for: fe80::q for port q
abbrev pub address_of : ℕ → Addr
address_of port = record { ip = 0xfe80 * 2 ^ 112 + port; port = port }

-- what was taken arrives at endpoint 1
abbrev pub arrival : Bool → Arrived → NodeEvent
arrival multicast got = node.Arrive (record { 0 = 1 }) (address_of got.from) multicast got.bytes

-- What a turn takes: the first datagram that waits at the port, which counts as unicast; or else the first that waits at
-- the next port, which counts as multicast; or else nothing.
abbrev pub TakesTurn : PlainSite → Option NodeEvent → Option (List Datagram) → Option (List Datagram) → Type 0
TakesTurn at None before after =
    (between : Option (List Datagram)) × TakesAt at.port None before between × TakesAt (at.port + 1) None between after
TakesTurn at (Some event) before after =
    ((got : Arrived) × (event ≡ arrival false got) × TakesAt at.port (Some got) before after)
    ⊎ ((got : Arrived) × (event ≡ arrival true got)
    × ((between : Option (List Datagram)) × TakesAt at.port None before between × TakesAt (at.port + 1) (Some got) between after))

-- The wire failed: at the port, or at the next port, after nothing waited at the port.
abbrev pub FailsToTake : PlainSite → Option (List Datagram) → Option (List Datagram) → Type 0
FailsToTake at before after = (after ≡ before) ⊎ TakesAt at.port None before after

-- ---- a turn

-- an event of a node, as one of its router
abbrev pub plain_of : NodeEvent → PlainEvent
plain_of node.Tick = Tick
plain_of (node.Arrive endpoint from multicast bytes) = Arrive (record { endpoint = endpoint; from = from; multicast = multicast }) bytes

-- an entry of the log: an event happened to the router at a moment, and took these words and gave these datagrams
pub record IsLoggedEvent (now : ℕ) (event : NodeEvent) (l : Logged) (before after : State) : Type 0 where
  pub moment_is : l.moment ≡ now
  pub event_is : l.event ≡ event
  pub done : Done
  pub happened : Happened now (plain_of event) before after done
  pub words_are : l.words ≡ done.words
  pub sends_are : l.sends ≡ done.sends

-- an event, and all that came of it is sent
pub record Steps (at : PlainSite) (now : ℕ) (event : NodeEvent) (l : Logged) (before after : Serving) : Type 0 where
  pub entry : IsLoggedEvent now event l before.router after.router
  pub sends : SendsAll (handed_of at l.sends) before.waiting after.waiting

-- what was taken arrives, if something was
abbrev pub Arrives : PlainSite → ℕ → Option NodeEvent → List Logged → Serving → Serving → Type 0
Arrives at now None entries before after = (entries ≡ []) × (after ≡ before)
Arrives at now (Some event) entries before after = (l : Logged) × Steps at now event l before after × (entries ≡ l ∷ [])

-- a datagram is taken, if one waits
pub record BeginsTurn (at : PlainSite) (taken : Option NodeEvent) (before after : Serving) : Type 0 where
  pub takes : TakesTurn at taken before.waiting after.waiting
  pub router : after.router ≡ before.router

-- a turn, and its entries in the log
pub record IsLoggedTurn (at : PlainSite) (now : ℕ) (entries : List Logged) (before after : Serving) : Type 0 where
  pub taken : Option NodeEvent
  pub begun : Serving
  pub begins : BeginsTurn at taken before begun
  pub first : List Logged
  pub between : Serving
  pub arrives : Arrives at now taken first begun between
  pub tick : Logged
  pub ticks : Steps at now node.Tick tick between after
  pub entries_are : entries ≡ first ++ tick ∷ []

-- So many turns, the log of them, and the readings that the clock has left before and after. A turn reads the clock once.
abbrev pub AreTurns : PlainSite → ℕ → List Logged → Serving → Serving → Option (List ℕ) → Option (List ℕ) → Type 0
AreTurns at zero log before after readings rest = (log ≡ []) × (after ≡ before) × (rest ≡ readings)
AreTurns at (suc n) log before after readings rest =
    (between : Serving) × (past : List Logged) × (entries : List Logged) × (now : ℕ) × (left : Option (List ℕ))
    × AreTurns at n past before between readings left × ReadsClock left now rest × IsLoggedTurn at now entries between after × (log ≡ past ++ entries)

-- ---- a turn that the wire cut

-- while a datagram was taken
pub record CutTaking (at : PlainSite) (entries : List Logged) (handed : List Datagram) (before after : Serving) : Type 0 where
  pub router : after.router ≡ before.router
  pub waiting : FailsToTake at before.waiting after.waiting
  pub entries_are : entries ≡ []
  pub handed_is : handed ≡ []

-- an event of which only these datagrams were sent, a proper front
pub record CutSteps (at : PlainSite) (now : ℕ) (event : NodeEvent) (l : Logged) (handed : List Datagram) (before after : Serving) : Type 0 where
  pub entry : IsLoggedEvent now event l before.router after.router
  pub sends : SendsPart (handed_of at l.sends) handed before.waiting after.waiting

-- while the answers to what was taken were sent
pub record CutArrival (at : PlainSite) (now : ℕ) (entries : List Logged) (handed : List Datagram) (before after : Serving) : Type 0 where
  pub taken : NodeEvent
  pub begun : Serving
  pub begins : BeginsTurn at (Some taken) before begun
  pub last : Logged
  pub cut : CutSteps at now taken last handed begun after
  pub entries_are : entries ≡ last ∷ []

-- while what the tick gave was sent
pub record CutTick (at : PlainSite) (now : ℕ) (entries : List Logged) (handed : List Datagram) (before after : Serving) : Type 0 where
  pub taken : Option NodeEvent
  pub begun : Serving
  pub begins : BeginsTurn at taken before begun
  pub first : List Logged
  pub between : Serving
  pub arrives : Arrives at now taken first begun between
  pub last : Logged
  pub front : List Datagram
  pub cut : CutSteps at now node.Tick last front between after
  pub entries_are : entries ≡ first ++ last ∷ []
  pub handed_is : handed ≡ handed_in at first ++ front

abbrev pub CutTurn : PlainSite → ℕ → List Logged → List Datagram → Serving → Serving → Type 0
CutTurn at now entries handed before after =
    CutTaking at entries handed before after ⊎ (CutArrival at now entries handed before after ⊎ CutTick at now entries handed before after)

-- fewer turns than asked, and one that the wire cut; these datagrams were sent
pub record CutTurns (at : PlainSite) (turns : ℕ) (log : List Logged) (handed : List Datagram) (before after : Serving) (readings rest : Option (List ℕ)) : Type 0 where
  pub made : ℕ
  pub fewer : made < turns
  pub past : List Logged
  pub between : Serving
  pub left : Option (List ℕ)
  pub whole : AreTurns at made past before between readings left
  pub now : ℕ
  pub reads : ReadsClock left now rest
  pub entries : List Logged
  pub last : List Datagram
  pub cut : CutTurn at now entries last between after
  pub log_is : log ≡ past ++ entries
  pub handed_is : handed ≡ handed_in at past ++ last

-- ---- a turn in which memory ended, by what waits then

-- nothing was taken, as where the wire fails; or a datagram was, if one waited
abbrev pub StarvesTaking : PlainSite → Option (List Datagram) → Option (List Datagram) → Type 0
StarvesTaking at before after = FailsToTake at before after ⊎ ((taken : Option NodeEvent) × TakesTurn at taken before after)

-- an event of which nothing was sent, or only a proper front of what came of it
abbrev pub StarvesSteps : PlainSite → ℕ → NodeEvent → Serving → Option (List Datagram) → Type 0
StarvesSteps at now event before waiting =
    (waiting ≡ before.waiting)
    ⊎ ((l : Logged) × (handed : List Datagram) × (router : State) × CutSteps at now event l handed before (serving router waiting))

-- while what was taken arrived
pub record StarvesArrival (at : PlainSite) (now : ℕ) (before : Serving) (waiting : Option (List Datagram)) : Type 0 where
  pub taken : NodeEvent
  pub begun : Serving
  pub begins : BeginsTurn at (Some taken) before begun
  pub starves : StarvesSteps at now taken begun waiting

-- while the router ticked
pub record StarvesTick (at : PlainSite) (now : ℕ) (before : Serving) (waiting : Option (List Datagram)) : Type 0 where
  pub taken : Option NodeEvent
  pub begun : Serving
  pub begins : BeginsTurn at taken before begun
  pub first : List Logged
  pub between : Serving
  pub arrives : Arrives at now taken first begun between
  pub starves : StarvesSteps at now node.Tick between waiting

abbrev pub StarvesTurn : PlainSite → ℕ → Serving → Option (List Datagram) → Type 0
StarvesTurn at now before waiting =
    StarvesTaking at before.waiting waiting ⊎ (StarvesArrival at now before waiting ⊎ StarvesTick at now before waiting)

-- Memory ended in the turns of a node: after fewer turns than asked, in one more. This waits then, and the clock has these readings
-- left.
pub record StarvesTurns (at : PlainSite) (turns : ℕ) (before : Serving) (waiting : Option (List Datagram)) (readings rest : Option (List ℕ)) : Type 0 where
  pub made : ℕ
  pub fewer : made < turns
  pub past : List Logged
  pub between : Serving
  pub left : Option (List ℕ)
  pub whole : AreTurns at made past before between readings left
  pub now : ℕ
  pub reads : ReadsClock left now rest
  pub starves : StarvesTurn at now between waiting

-- ---- what is said of a log

abbrev pub is_tick_event : NodeEvent → Bool
is_tick_event node.Tick = true
is_tick_event (node.Arrive endpoint from multicast bytes) = false

abbrev pub is_tick : Logged → Bool
is_tick l = is_tick_event l.event

abbrev pub is_arrival_event : NodeEvent → Bool
is_arrival_event node.Tick = false
is_arrival_event (node.Arrive endpoint from multicast bytes) = true

abbrev pub is_arrival : Logged → Bool
is_arrival l = is_arrival_event l.event

-- how many datagrams arrived
abbrev pub arrivals_in : List Logged → ℕ
arrivals_in log = count_by is_arrival log

-- the random words that a log took
abbrev pub logged_words : List Logged → List ℕ
logged_words log = flat_map (λ l. l.words) log

-- what arrives has at most 65,507 bytes
abbrev pub IsShort : NodeEvent → Type 0
IsShort node.Tick = Unit {0}
IsShort (node.Arrive endpoint from multicast bytes) = length bytes ≤ 65507

-- what arrived and what was sent fits a datagram (RFC 768: 65,535 bytes with its header and that of IPv4)
pub record IsBounded (l : Logged) : Type 0 where
  pub arrived : IsShort l.event
  pub sent : All (λ send. length send.bytes ≤ 65507) l.sends

-- the wire failed
abbrev pub HasFailed : Result Served NoMemory → Type 0
HasFailed (Ok served) = served.end ≡ serve_end.WireFault
HasFailed (Err NoMemory) = ⊥
