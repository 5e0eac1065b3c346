-- One pair of the assignment subroutine (RFC 7695, section 4.1).
use Rattle.std.specs.Prelude.{◌≡◌, ℕ, List, ◌++◌, Option}
use Rattle.hn_data.specs.View.{PlainView}
use Rattle.hn_base.specs.Words.{Took}
use Rattle.hn_assign.specs.declared.advertised.Advertised.{Advertised}
use Rattle.hn_pair.specs.declared.assigned.Wish.{Wish}
use Rattle.hn_assign.specs.declared.ran.Ran.{Ran}
use Rattle.hn_assign.specs.declared.slot.Slot.{Slot}
use Rattle.hn_assign.specs.Gathered.{AreAdvertised}
use Rattle.hn_pair.specs.Pair.{assigned_pair, backoff_pair, wish_pair, Updates}
use Rattle.hn_assign.specs.Scene.{scene_of}
use Rattle.hn_assign.specs.Lines.{IsPairTurn}
use Rattle.hn_assign.specs.Slot.{IsSlot}

-- A line of the table leads from what the pair has to what it has afterwards, by the prefixes that are advertised in the
-- state so far, and takes these words. What other pairs have stays.
pub record IsPairStep (view : PlainView) (wish : Wish) (words : List ℕ) (before after : Ran) : Type 0 where
  pub advertised : List Advertised
  pub are_advertised : AreAdvertised view before.held.assigned advertised
  pub old : Slot
  pub had : IsSlot (wish_pair wish) before.held old
  pub new : Slot
  pub turn : IsPairTurn (scene_of view wish advertised) old words new
  pub assigned : Updates assigned_pair (wish_pair wish) new.assigned before.held.assigned after.held.assigned
  pub backoffs : Updates backoff_pair (wish_pair wish) new.backoff before.held.backoffs after.held.backoffs
  pub took : after.words ≡ before.words ++ words

-- and a draw moved by exactly these words
pub record StepTook (view : PlainView) (wish : Wish) (told told_after : Option (ℕ → ℕ)) (before after : Ran) : Type 0 where
  pub words : List ℕ
  pub step : IsPairStep view wish words before after
  pub drew : Took told words told_after
