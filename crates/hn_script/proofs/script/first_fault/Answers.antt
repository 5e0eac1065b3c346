-- No fault of the first line and none after it: the lines after it are those of a script. A script has no fault.
use Rattle.hn_base.proofs.Names.{ℕ, List, Option, Some, None, inr, refl, IfNone}
use Rattle.hn_script.proofs.Names.{ScriptFault, IsScript, Script}
use Rattle.std.specs.Prelude.{IfSome}
use Rattle.hn_script.specs.Laws.{HasFaultOrScript}
use Rattle.hn_script.specs.Script.{IsFirstFault}
use Rattle.hn_script.proofs.SameScripts.{script_no_fault}
use Rattle.hn_script.proofs.script.first_fault.Goals as goal

then_script : (r : Option ScriptFault) (P Q : Type 0) → (P → Q) → IfNone r P → IfNone r Q
then_script None P Q f h = f h
then_script (Some fault) P Q f h = tt

then_fault : (r : Option ScriptFault) (P Q : ScriptFault → Type 0) → ((fault : ScriptFault) → P fault → Q fault) → IfSome r P → IfSome r Q
then_fault None P Q f h = tt
then_fault (Some fault) P Q f h = f fault h

pub returns-in-Ok-clause-none : goal.returns-in-Ok-clause-none
returns-in-Ok-clause-none c =
    then_script c.fault_from.result _ _ (λ found. (
      record { version = c.in-Ok.version; lines = found.0 },
      record { small = c.in-Ok.ensures.small; texts = _; parts = c.in-Ok.ensures.opened; lines = found.1 },
    )) c.fault_from.ensures.none

decided : (bytes : List ℕ) (r : Option ScriptFault) → IfSome r (λ fault. IsFirstFault fault bytes)
    → IfNone r ((script : Script) × IsScript script bytes) → HasFaultOrScript bytes
decided bytes (Some fault) found none = (λ has script is. script_no_fault bytes has.0 script has.1 is, λ no_script. (fault, found))
decided bytes None found none = (λ has script is. script_no_fault bytes has.0 script has.1 is, λ no_script. absurd (no_script none.0 none.1))

pub returns-in-Ok-clause-decided : goal.returns-in-Ok-clause-decided
returns-in-Ok-clause-decided c =
    decided c.args.bytes.now c.fault_from.result
    (then_fault c.fault_from.result _ _ (λ fault found. inr (c.in-Ok.ensures.small, rw c.in-Ok.ensures.opened (inr (c.in-Ok.version, refl, found)))) c.fault_from.ensures.found)
    (then_script c.fault_from.result _ _ (λ found. (
      record { version = c.in-Ok.version; lines = found.0 },
      record { small = c.in-Ok.ensures.small; texts = _; parts = c.in-Ok.ensures.opened; lines = found.1 },
    )) c.fault_from.ensures.none)

pub returns-in-Err-clause-decided : goal.returns-in-Err-clause-decided
returns-in-Err-clause-decided c = decided c.args.bytes.now (Some c.in-Err.fault) c.in-Err.ensures.refused tt
