-- The assignment of prefixes to the links of a router's posts (RFC 7788, section 6.3).
use Rattle.std.specs.Prelude.{◌≡◌, ℕ, ◌↔◌, IsTrue, List, Option, Some, Contains}
use Rattle.std.specs.List.{slice_get}
use Rattle.hn_data.specs.View.{PlainView}
use Rattle.hn_deleg.specs.declared.delegated.Delegated.{Delegated}
use Rattle.hn_deleg.specs.Used.{AreUsable, IsUnwanted}
use Rattle.hn_link.specs.CommonLink.{IsCommonLink}
use Rattle.hn_pair.specs.declared.assigned.Wish.{Wish}
use Rattle.hn_assign.specs.declared.ran.Ran.{Ran as Assigned}
use Rattle.hn_pair.specs.Pair.{IsAscending, wish_pair}
use Rattle.hn_assign.specs.Subroutine.{IsSubroutine}
use Rattle.hn_rules.specs.declared.running.Running.{Running}
use Rattle.hn_rules.specs.declared.state.State.{State}
use Rattle.hn_own.specs.Posts.{posts_of, length_at}
use Rattle.hn_rules.specs.Rules.{with_words}
use Rattle.hn_rules.specs.Seen.{seen_by}

-- what is asked for the pair of a usable delegated prefix, the one at a place of their list, and an endpoint: a prefix of
-- the length that the endpoint gets, if the delegated prefix is wanted
pub record IsWishAt (private : Option ℕ) (view : PlainView) (usable : List Delegated) (place : ℕ) (wish : Wish) : Type 0 where
  pub delegated : Delegated
  pub at : slice_get usable place ≡ Some delegated
  pub prefix : wish.delegated ≡ delegated.prefix
  pub wanted : IsTrue wish.wanted ↔ ¬ (IsUnwanted usable place)
  pub common : IsCommonLink view wish.endpoint.0 wish.common
  pub length : wish.length ≡ length_at private wish.endpoint

-- and the endpoint is one of the router's posts
pub record IsWishFor (s : State) (usable : List Delegated) (wish : Wish) : Type 0 where
  pub place : ℕ
  pub asked : IsWishAt s.private (seen_by s) usable place wish
  pub post : Contains (posts_of s.private s.ports) wish.endpoint

-- the wishes of a router: one for each pair, in ascending order
pub record AreAsked (s : State) (usable : List Delegated) (wishes : List Wish) : Type 0 where
  pub ascending : IsAscending wish_pair wishes
  pub exact : (wish : Wish) → Contains wishes wish ↔ IsWishFor s usable wish

-- The assignment subroutine over all pairs of a usable delegated prefix and a post of the router; assignments that were
-- kept long enough are marked applied (RFC 7695, sections 4.1 and 4.3).
pub record IsRunAssigned (s : State) (ran : Assigned) : Type 0 where
  pub usable : List Delegated
  pub are_usable : AreUsable (seen_by s) usable
  pub wishes : List Wish
  pub are_asked : AreAsked s usable wishes
  pub is_subroutine : IsSubroutine (seen_by s) wishes s.held ran

-- the rule
pub record IsAssigning (before after : Running) : Type 0 where
  pub ran : Assigned
  pub is_assigned : IsRunAssigned before.state ran
  pub gives : after ≡ with_words ran.words (record before { state = record before.state { held = ran.held } })
