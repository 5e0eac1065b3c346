-- What is asked for a router's posts, and what the subroutine makes of it.
use Rattle.hn_base.proofs.Names.{◌≡◌, ◌↔◌, ℕ, List, Contains, sym, subst, All, IsTotalOrder, All-contains, IsExact}
use Rattle.hn_rules.proofs.Names.{EpId, PlainView, Delegated, AreUsable, Wish, Held, IsInDelegated, HasOwnPriority, assigned_pair, pair_cmp, IsAscending, IsWished, IsSubroutine}
use Rattle.hn_rules.proofs.Names.{AssignedAreWished, AreHeldPairs, FewPosts, ArePorts, posts_of, State, seen_by, IsWishAt, AreAsked, IsRunAssigned}
use Rattle.hn_assign.specs.declared.ran.Ran.{Ran}
use Rattle.hn_pair.specs.Facts.{AreWishes}
use Rattle.hn_pair.specs.Pair.{backoff_pair}
use Rattle.hn_rules.proofs.LawPairs.{wished_few}

-- ---- what is asked

pub are_asked : (s : State) (view : PlainView) (usable : List Delegated) (posts : List EpId) (wishes : List Wish) → AreWishes wishes → view ≡ seen_by s → posts ≡ posts_of s.private s.ports
    → ((wish : Wish) → Contains wishes wish ↔ ((place : ℕ) × IsWishAt s.private view usable place wish × Contains posts wish.endpoint)) → AreAsked s usable wishes
are_asked s view usable posts wishes are same_view same exact = record {
  ascending = are.ascending;
  exact = λ wish. (
    λ there. let found = (exact wish).0 there in record {
      place = found.0;
      asked = subst (λ (v : PlainView). IsWishAt s.private v usable found.0 wish) same_view found.1;
      post = subst (λ (es : List EpId). Contains es wish.endpoint) same found.2;
    },
    λ is. (exact wish).1 (
      is.place,
      subst (λ (v : PlainView). IsWishAt s.private v usable is.place wish) (sym same_view) is.asked,
      subst (λ (es : List EpId). Contains es wish.endpoint) (sym same) is.post,
    ),
  );
}

-- ---- what the subroutine makes

pub assigned_of : (s : State) (view : PlainView) (usable : List Delegated) (wishes : List Wish) (held : Held) (ran : Ran) → view ≡ seen_by s → held ≡ s.held
    → AreUsable (seen_by s) usable → AreAsked s usable wishes → IsSubroutine view wishes held ran → IsRunAssigned s ran
assigned_of s view usable wishes held ran same_view same_held are asked run = record {
  usable = usable;
  are_usable = are;
  wishes = wishes;
  are_asked = asked;
  is_subroutine = subst (λ (h : Held). IsSubroutine (seen_by s) wishes h ran) same_held (subst (λ (v : PlainView). IsSubroutine v wishes held ran) same_view run);
}

pub kept_of : FewPosts → IsTotalOrder pair_cmp → IsExact pair_cmp → AssignedAreWished → (s : State) (ran : Ran) → ArePorts s.ports → IsRunAssigned s ran
    → IsAscending assigned_pair ran.held.assigned × IsAscending backoff_pair ran.held.backoffs
    → All IsInDelegated ran.held.assigned → All HasOwnPriority ran.held.assigned → AreHeldPairs ran.held
kept_of posts total exact leaves s ran ports is up inside priority = record {
  assigned = up.0;
  backoffs = up.1;
  few = wished_few s is.usable is.wishes is.are_asked assigned_pair total exact ran.held.assigned is.are_usable.few (posts s.private s.ports ports) up.0
      (λ c there. All-contains (λ c. IsWished is.wishes (assigned_pair c)) ran.held.assigned c (leaves (seen_by s) is.wishes s.held ran is.is_subroutine) there);
  inside = inside;
  priority = priority;
}
