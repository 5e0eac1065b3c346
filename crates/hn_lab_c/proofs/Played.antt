-- The play of a handle, and what a line that C gives comes to.
use Rattle.hn_base.proofs.Names.{◌≡◌, ◌∙◌, ℕ, List, Option, Some, Ok, Err, inl, inr, sym, ap, subst, arith}
use Rattle.std.specs.Prelude.{Result, IfSome}
use Rattle.hn_lab.specs.declared.course.OpenFault.{OpenFault}
use Rattle.hn_lab.specs.declared.course.OpenFault.TheVariants as fault
use Rattle.hn_play.specs.declared.end.End.TheVariants as ends
use Rattle.hn_lab.specs.Open.{Opened, GoesByText}
use Rattle.hn_world.specs.declared.parts.Parts.{Parts}
use Rattle.hn_lab_c.specs.Calls.{line_status, TakesLine, HasTakenLine}

-- of a handle that has this play
pub of_play : {held : Option Opened} (play : Opened) → Some play ≡ held → (Holds : Opened → Type 0) → Holds play → IfSome held Holds
of_play play is Holds holds = subst (λ (h : Option Opened). IfSome h Holds) is holds

-- and of its world
pub of_world : {held : Option Opened} (play given : Opened) (w : Parts) → Some play ≡ held → given ≡ play → w ≡ given.world → (Holds : Parts → Type 0) → Holds w
    → IfSome held (λ p. Holds p.world)
of_world play given w is same there Holds holds = of_play play is (λ p. Holds p.world) (subst Holds (there ∙ ap (λ (p : Opened). p.world) same) holds)

-- a line that is done leaves an open play open
stays_open : (text : List ℕ) (before after : Opened) (u : Unit {0}) → before.end ≡ Some ends.Done → GoesByText text before after (Ok u) → after.end ≡ Some ends.Done
stays_open text before after u is_open (inl (line, entry, inl (added, end))) = end
stays_open text before after u is_open (inl (line, entry, inr (large, refused, same))) = absurd cc
stays_open text before after u is_open (inr (inl (entry, ok, same))) = ap (λ (p : Opened). p.end) same ∙ is_open
stays_open text before after u is_open (inr (inr (inl (code, none, refused, same)))) = absurd cc
stays_open text before after u is_open (inr (inr (inr (starved, same)))) = absurd cc

open_after : (text : List ℕ) (before after : Opened) (went : Result Unit OpenFault) → before.end ≡ Some ends.Done → GoesByText text before after went → line_status went ≡ 0
    → after.end ≡ Some ends.Done
open_after text before after (Ok u) is_open goes done = stays_open text before after u is_open goes
open_after text before after (Err fault.NoMemory) is_open goes done = absurd (omega (arith, done))
open_after text before after (Err (fault.Refused code)) is_open goes done = absurd (omega (arith, done))
open_after text before after (Err (fault.Over code)) is_open goes done = absurd (omega (arith, done))

-- a line that is refused changes nothing
unchanged : (text : List ℕ) (before after : Opened) (code : ℕ) → GoesByText {A = Unit} text before after (Err (fault.Refused code)) → after ≡ before
unchanged text before after code (inl (line, entry, inl (next, same))) = same
unchanged text before after code (inl (line, entry, inr (large, refused, same))) = same
unchanged text before after code (inr (inl (entry, ok, same))) = same
unchanged text before after code (inr (inr (inl (other, none, refused, same)))) = same
unchanged text before after code (inr (inr (inr (starved, same)))) = same

as_before : (text : List ℕ) (before after : Opened) (went : Result Unit OpenFault) → GoesByText text before after went → line_status went ≡ 2 → after ≡ before
as_before text before after (Ok u) goes two = absurd (omega (arith, two))
as_before text before after (Err fault.NoMemory) goes two = absurd (omega (arith, two))
as_before text before after (Err (fault.Refused code)) goes two = unchanged text before after code goes
as_before text before after (Err (fault.Over code)) goes two = absurd (omega (arith, two))

opened : (text : List ℕ) (before after : Opened) (status code : ℕ) → TakesLine text before after status code → status ≡ 0 → after.end ≡ Some ends.Done
opened text before after status code (inl (over, same, three, none)) done = absurd (omega (arith, done, three))
opened text before after status code (inr (is_open, (went, goes, is, code_is))) done = open_after text before after went is_open goes (sym is ∙ done)

kept : (text : List ℕ) (before after : Opened) (status code : ℕ) → TakesLine text before after status code → status ≡ 2 → after ≡ before
kept text before after status code (inl (over, same, three, none)) two = same
kept text before after status code (inr (is_open, (went, goes, is, code_is))) two = as_before text before after went goes (sym is ∙ two)

-- the handle has the play again that has taken a line
pub has_taken : (text : List ℕ) (before given after : Opened) (held : Option Opened) (status code : ℕ) → given ≡ before → held ≡ Some after
    → TakesLine text given after status code → HasTakenLine text before held status code
has_taken text before given after held status code same has takes =
    subst (λ (p : Opened). HasTakenLine text p held status code) same (record {
      after = after;
      has = has;
      takes = takes;
      is_open = opened text given after status code takes;
      as_before = kept text given after status code takes;
    })
