-- Laws of worlds that are the replay of their trace.
use Rattle.std.specs.Prelude.{◌≡◌, ◌<◌, ◌++◌, ◌∷◌, [], ℕ, List, Some, All, length}
use Rattle.hn_base.specs.Byte.{IsByte}
use Rattle.hn_base.specs.declared.version.Version.{Version}
use Rattle.hn_hash.specs.declared.agreement.Agreement.{Agreement}
use Rattle.hn_hash.specs.declared.leaf.Leaf.{Leaf}
use Rattle.hn_rules.specs.declared.done.Note.{Note}
use Rattle.hn_world.specs.declared.event.WEvent.{WEvent}
use Rattle.hn_world.specs.declared.event.Traced.{Traced}
use Rattle.hn_world.specs.declared.parts.Parts.{Parts}
use Rattle.hn_world.specs.Leaves.{Agrees}
use Rattle.hn_world.specs.Replay.{Replays, IsReplayed, IsSoundWorld, AreAttached, Always, Throughout, Stepped}
use Rattle.hn_world.specs.Step.{Step, IsStep}

-- From one world, with one event and one stream of words that a draw tells, there is at most one result.
abbrev pub StepIsUnique : Type 0
StepIsUnique =
    (event : WEvent) (told rest other_rest : ℕ → ℕ) (notes other_notes : List Note) (before after other : Parts)
    → IsStep event notes (Some told) (Some rest) before after
    → IsStep event other_notes (Some told) (Some other_rest) before other
    → (after ≡ other) × (notes ≡ other_notes) × (rest ≡ other_rest)

-- Each event is entered at the end of the trace.
abbrev pub EachEventIsEntered : Type 0
EachEventIsEntered =
    (t : Traced) (notes : List Note) (before after : Parts) → Step t notes before after
    → after.trace ≡ before.trace ++ t ∷ []

-- And each event of a replayed world's trace was a step from a world of its past to the next one.
abbrev pub EachEventIsAStep : Type 0
EachEventIsAStep = (w : Parts) → IsReplayed w → Throughout Stepped w

-- Two lists of leaves agree in one way.
abbrev pub AgreementIsUnique : Type 0
AgreementIsUnique = (a b : List Leaf) (x y : Agreement) → Agrees a b x → Agrees a b y → x ≡ y

-- A trace leads to at most one world.
abbrev pub AtMostOneWorld : Type 0
AtMostOneWorld =
    (version : Version) (ts : List Traced) (a b : Parts) → Replays version ts a → Replays version ts b → a ≡ b

-- And that has this trace.
abbrev pub WorldHasItsTrace : Type 0
WorldHasItsTrace = (version : Version) (ts : List Traced) (w : Parts) → Replays version ts w → w.trace ≡ ts

-- And that version.
abbrev pub WorldHasItsVersion : Type 0
WorldHasItsVersion = (version : Version) (ts : List Traced) (w : Parts) → Replays version ts w → w.version ≡ version

-- Each router of a replayed world is one, and no later than the world.
abbrev pub WorldIsSound : Type 0
WorldIsSound = (w : Parts) → IsReplayed w → IsSoundWorld w

-- At each moment of a replayed world's past, each router has the endpoints that are attached, and no two of them on one link.
abbrev pub AlwaysAttached : Type 0
AlwaysAttached = (w : Parts) → IsReplayed w → Always AreAttached w

-- Each copy of a replayed world goes to a router that is there.
abbrev pub CopiesHaveReceivers : Type 0
CopiesHaveReceivers = (w : Parts) → IsReplayed w → All (λ c. c.to.place < length w.members) w.copies

-- And each is of bytes.
abbrev pub CopiesAreBytes : Type 0
CopiesAreBytes = (w : Parts) → IsReplayed w → All (λ c. All IsByte c.bytes) w.copies
