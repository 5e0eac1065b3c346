-- Where a tick makes the assignment of a preferred pair anew.
use Rattle.std.specs.Prelude.{◌≡◌, ℕ, List, [], ◌∷◌, ◌++◌}
use Rattle.hn_data.specs.View.{PlainView}
use Rattle.hn_deleg.specs.declared.delegated.Delegated.{Delegated}
use Rattle.hn_deleg.specs.Used.{AreUsable}
use Rattle.hn_pair.specs.declared.assigned.Wish.{Wish}
use Rattle.hn_assign.specs.declared.ran.Ran.{Ran}
use Rattle.hn_pair.specs.Pair.{wish_pair}
use Rattle.hn_assign.specs.Scene.{PlainScene, scene_of}
use Rattle.hn_assign.specs.Step.{IsPairStep}
use Rattle.hn_assign.specs.Subroutine.{IsBegun, AreSteps}
use Rattle.hn_assign.specs.Unassigned.{IsMade}
use Rattle.hn_rules.specs.declared.running.Running.{Running}
use Rattle.hn_rules.specs.declared.state.State.{State}
use Rattle.hn_rules.specs.Assigning.{AreAsked}
use Rattle.hn_rules.specs.Rules.{begun_at}
use Rattle.hn_rules.specs.Seen.{seen_by}
use Rattle.hn_rules.specs.Tick.{forgetting}
use Rattle.hn_rules.specs.Ticks.{IsLosing}
use Rattle.hn_kept.specs.declared.preferred.Preferred.{Preferred}
use Rattle.hn_kept.specs.Preferred.{preferred_pair}

-- what a router sees where it assigns prefixes in a tick, after what was lost
abbrev pub view_after : Running → PlainView
view_after lost = seen_by (forgetting lost).state

-- In a tick the turn of a pair comes: silent peers, ended delegated prefixes and lost nodes went, and then the pairs before this
-- one had their turns, in the order of the wishes (RFC 7695, section 4.1).
pub record IsTurnInTick (now : ℕ) (s : State) (f : Preferred) : Type 0 where
  pub lost : Running
  pub is_lost : IsLosing (begun_at now s) lost
  pub usable : List Delegated
  pub are_usable : AreUsable (view_after lost) usable
  pub earlier : List Wish
  pub wish : Wish
  pub later : List Wish
  pub are_asked : AreAsked (forgetting lost).state usable (earlier ++ wish ∷ later)
  pub of_pair : wish_pair wish ≡ preferred_pair f
  pub begun : Ran
  pub is_begun : IsBegun (earlier ++ wish ∷ later) lost.state.held begun
  pub before : Ran
  pub steps : AreSteps (view_after lost) earlier begun before

-- the words that the tick took before the turn
abbrev pub words_before : {now : ℕ} {s : State} {f : Preferred} → IsTurnInTick now s f → List ℕ
words_before turn = turn.lost.done.words ++ turn.before.words

-- In its turn the pair has no assignment, and the rules make one and publish it; it takes the next of the words of the tick.
pub record IsMadeAnew (now : ℕ) (s : State) (words : List ℕ) (f : Preferred) : Type 0 where
  pub turn : IsTurnInTick now s f
  pub word : ℕ
  pub after : Ran
  pub step : IsPairStep (view_after turn.lost) turn.wish (word ∷ []) turn.before after
  pub made : IsMade (scene_of (view_after turn.lost) turn.wish step.advertised) step.old (word ∷ []) step.new
  pub rest : List ℕ
  pub took : words ≡ words_before turn ++ word ∷ rest

-- what the pair is judged by in its turn
abbrev pub scene_in : {now : ℕ} {s : State} {words : List ℕ} {f : Preferred} → IsMadeAnew now s words f → PlainScene
scene_in anew = scene_of (view_after anew.turn.lost) anew.turn.wish anew.step.advertised
