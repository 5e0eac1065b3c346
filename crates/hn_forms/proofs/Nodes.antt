-- What `node` comes to, and what it is asked for.
use Rattle.hn_base.proofs.Names.{◌≡◌, ◌≢◌, ◌∙◌, ◌⊎◌, ◌<◌, ◌^◌, ◌-◌, min, zero-add, ℕ, zero, suc, List, [], ◌∷◌, Option, Some, None, Result, Ok, Err, length, inl, inr, refl, sym, ap, subst}
use Rattle.hn_base.proofs.Names.{arith, lit<, OnOk, OnErr, All, Appends, Took, Begins}
use Rattle.hn_forms.proofs.Names.{IfSome, Contains, NodeId, One, IoFault, Failed, NoMemory, AppendsPart, Served, Datagram, written_status, LineHolds}
use Rattle.hn_forms.proofs.Names.{PlainCall, Outside, node_line, served_line, MakesNode, StatusOfNode}
use Rattle.hn_node.specs.Turns.{Serving, AreTurns, CutTurns, IsBounded, handed_in}
use Rattle.hn_node.specs.declared.served.ServeEnd.{ServeEnd}
use Rattle.hn_node.specs.declared.served.ServeEnd.TheVariants as ending
use Rattle.hn_world.specs.Within.{IsWithinLimits}
use Rattle.hn_forms.specs.Node.{site_of, IsStatusOf, EndsServing, StarvesServing}
use Rattle.std.proofs.KnownBytes.{Appends-nil}

-- ---- a line that is written

-- a line is written, wholly or in part, and its status says which
pub line_written : (written : Result (Unit {0}) IoFault) (whole : ℕ) (a b : Option (List ℕ)) (line : List ℕ) → whole < 3 → OnOk written (Appends a b line) → OnErr written (AppendsPart a b line)
    → (held : List ℕ) × LineHolds (written_status written whole) line held × Appends a b held
line_written (Ok done) whole a b line small ok cut = (line, inr (inr ((λ four. omega arith), (λ six. omega arith), refl)), ok)
line_written (Err Failed) whole a b line small ok cut = (cut.0, inl (refl, cut.1), cut.2)
line_written (Err NoMemory) whole a b line small ok cut = (cut.0, inr (inl (refl, (cut.1.missing, cut.1.whole_is))), cut.2)

pub status_written : (written : Result (Unit {0}) IoFault) (whole : ℕ) → Contains (whole ∷ 4 ∷ 6 ∷ []) (written_status written whole)
status_written (Ok done) whole = (0, omega arith, refl)
status_written (Err Failed) whole = (1, omega arith, refl)
status_written (Err NoMemory) whole = (2, omega arith, refl)

-- ---- the line on a router that was served

pub line_is : (s : Served) (id : NodeId) (number : ℕ) (reach : List NodeId) (line : List ℕ) → id ≡ s.router.id → number ≡ s.router.number
    → reach ≡ s.router.reach → line ≡ node_line id number (length reach) s.taken s.sent → line ≡ served_line s
line_is s id number reach line ids numbers reaches is =
    is
    ∙ ap (λ (x : NodeId). node_line x number (length reach) s.taken s.sent) ids
    ∙ ap (λ (x : ℕ). node_line s.router.id x (length reach) s.taken s.sent) numbers
    ∙ ap (λ (x : List NodeId). node_line s.router.id s.router.number (length x) s.taken s.sent) reaches

-- what is told of it
pub told_of : (written : Result (Unit {0}) IoFault) (status : ℕ) (a b : Option (List ℕ)) (line : List ℕ) → status ≡ written_status written 0
    → OnOk written (Appends a b line) → OnErr written (AppendsPart a b line)
    → (held : List ℕ) × LineHolds status line held × Appends a b held × Contains (0 ∷ 4 ∷ 6 ∷ []) status
told_of written status a b line is ok cut =
    let told = line_written written 0 a b line (lit< tt) ok cut in
    let P : ℕ → Type 0 = λ n. (held : List ℕ) × LineHolds n line held × Appends a b held × Contains (0 ∷ 4 ∷ 6 ∷ []) n in
    subst P (sym is) (told.0, told.1, told.2, status_written written 0)

-- ---- statuses

pub status_of : (whole status : ℕ) → Contains (whole ∷ 4 ∷ 6 ∷ []) status → IsStatusOf whole status
status_of whole status (zero, within, is) = inl (sym is)
status_of whole status (suc zero, within, is) = inr (inl (sym is))
status_of whole status (suc (suc zero), within, is) = inr (inr (sym is))
status_of whole status (suc (suc (suc k)), within, is) = absurd (omega arith)

pub not_done : (status : ℕ) → Contains (2 ∷ 4 ∷ 6 ∷ []) status → (status ≢ 0) × (status ≢ 5)
not_done status among = elim (status_of 2 status among) [
  | inl two ↦ ((λ none. omega arith), (λ five. omega arith))
  | inr (inl four) ↦ ((λ none. omega arith), (λ five. omega arith))
  | inr (inr six) ↦ ((λ none. omega arith), (λ five. omega arith))
]

-- out of memory
pub starved : (status : ℕ) → status ≡ 6 → (status ≢ 0) × (status ≢ 5)
starved status six = ((λ none. omega arith), (λ five. omega arith))

pub ended : (e : ServeEnd) → (e ≡ ending.Turns) ⊎ (e ≡ ending.WireFault)
ended ending.Turns = inl refl
ended ending.WireFault = inr refl

-- ---- out of memory before there was a text

pub unserved : (call : PlainCall) (bytes : List ℕ) (status : ℕ) (served : Option Served) (before after : Outside) (held : Option (List ℕ)) → status ≡ 6 → served ≡ None
    → (after.waiting ≡ before.waiting) ⊎ StarvesServing call bytes before after
    → (text : List ℕ) × MakesNode call bytes status served before after text × ((written : List ℕ) × LineHolds status text written × Appends held held written)
unserved call bytes status served before after held six none wire =
    ([], inr (inr (record { status_is = six; unserved = none; text_is = refl; wire = wire })), ([], inr (inl (six, ([], refl))), Appends-nil held))

pub nothing_excluded : (call : PlainCall) (bytes : List ℕ) (status : ℕ) → status ≡ 6 → StatusOfNode call bytes status
nothing_excluded call bytes status six = record {
  no_file = λ fault is. starved status six;
  overfull = λ lines now number file full. starved status six;
  done = λ lines file free two. omega arith;
}

-- ---- a router that was served

-- how the turns ended, and what is told of it
pub record Told (call : PlainCall) (status : ℕ) (s : Served) (first last : Serving) (readings rest : Option (List ℕ)) (a b : Option (List ℕ)) : Type 0 where
  pub text : List ℕ
  pub ends : EndsServing call status s first last readings rest text
  pub written : List ℕ
  pub holds : LineHolds status text written
  pub appends : Appends a b written

pub told_served : (call : PlainCall) (status : ℕ) (s : Served) (first last : Serving) (readings rest : Option (List ℕ)) (a b : Option (List ℕ))
    → (s.end ≡ ending.Turns → AreTurns (site_of call) call.turns s.log first last readings rest × (s.sent ≡ min (length (handed_in (site_of call) s.log)) (2 ^ 64 - 1)))
    → (s.end ≡ ending.WireFault → (handed : List Datagram) × CutTurns (site_of call) call.turns s.log handed first last readings rest × (s.sent ≡ min (length handed) (2 ^ 64 - 1)))
    → (s.end ≡ ending.Turns → (held : List ℕ) × LineHolds status (served_line s) held × Appends a b held × Contains (0 ∷ 4 ∷ 6 ∷ []) status)
    → (s.end ≡ ending.WireFault → (status ≡ 5) × Appends a b [])
    → Told call status s first last readings rest a b
told_served call status s first last readings rest a b turns cut told untold = elim (ended s.end) [
  | inl all ↦
      let made = turns all in
      let held = told all in
      record { text = served_line s; ends = inl (all, made.0, made.1, status_of 0 status held.3, refl); written = held.0; holds = held.1; appends = held.2 }
  | inr fails ↦
      let five = (untold fails).0 in
      record { text = []; ends = inr (fails, cut fails, five, refl); written = []; holds = inr (inr ((λ four. omega arith), (λ six. omega arith), refl)); appends = (untold fails).1 }
]

-- what is told is within its limits
pub within_told : (status : ℕ) (told : Option Served) (s : Served) → IsWithinLimits One s.router → All IsBounded s.log → ((status ≡ 6) × (told ≡ None)) ⊎ ((status ≢ 6) × (told ≡ Some s))
    → IfSome told (λ (t : Served). IsWithinLimits One t.router × All IsBounded t.log)
within_told status told s within bounded (inl none) = rw none.1 tt
within_told status told s within bounded (inr some) = rw some.1 (within, bounded)

-- its words begin those of the seed
pub begins_seed : (stream : ℕ → ℕ) (after : Option (ℕ → ℕ)) (words : List ℕ) → Took (Some stream) words after → Begins words stream
begins_seed stream after words drew =
    (drew [] stream (record { begins = λ i within. absurd (omega arith); rest = ap Some (simp zero-add) })).begins
