-- A router at rest that lasts until a moment is steady until then.
use Rattle.hn_base.proofs.Names.{◌≡◌, ◌∙◌, ◌<◌, ◌≤◌, ◌-◌, ◌^◌, ℕ, Bool, false, true, List, [], ◌∷◌, Contains, map, Option, None, Some, refl, sym, ap, subst, arith, ◌||◌, nat_le, filter_map, leb-false}
use Rattle.hn_base.proofs.Names.{leb-true, or_parts, All-contains, All-contains_itself, All-weaker}
use Rattle.hn_audit.proofs.Names.{All, all_of, NodeId, IsLater, PlainView, Delegated, AreUsable, Assigned, Wish, Ran, AreAtRest, AreAssignmentsUnchanged, IsWished, assigned_pair, PlainData, OwnPrefix}
use Rattle.hn_audit.proofs.Names.{held, Passing, Done, State, IsRunAssigned, entry_of, view_of, after_passing, IsKeptAtRest, IsRouter, seen_by, AreHeard, IsKeptUndue, at_moment, AreAgesUndue, Happened, Tick}
use Rattle.hn_audit.proofs.Names.{MomentIsNow, IsSteady, IsLastingUntil, IsRouterAtRest, AreSame, UseSame}
use Rattle.hn_deleg.specs.Due.{IsLifetimeEnd}
use Rattle.hn_deleg.specs.Laws.{AgedAreTheSamePrefixes, EndsOfLater, UnwantedOfLater, UsableOfLater}
use Rattle.hn_deleg.specs.Later.{aged_delegated}
use Rattle.hn_own.specs.Lifetimes.{has_ended}
use Rattle.hn_own.specs.OwnPrefixes.{has_ended_one}
use Rattle.hn_store.specs.declared.stored.HeldNode.{HeldNode}
use Rattle.hn_rules.specs.Nodes.{age_at}
use Rattle.hn_rules.specs.Updates.{LeavesAges, CalmTickLeavesAges}
use Rattle.hn_audit.proofs.BridgeUsed.{used_same}
use Rattle.hn_audit.proofs.EqualInPlace.{same_back}
use Rattle.hn_audit.proofs.RestsOnwards.{ran}
use Rattle.hn_audit.proofs.StayingRests.{GoOn, RestLaws, entries_by, entry_by, same_wish}

-- the laws of the crates below on which it rests
pub record UntilLaws : Type 0 where
  pub rests : RestLaws
  pub usable : UsableOfLater
  pub prefixes : AgedAreTheSamePrefixes
  pub unwanted : UnwantedOfLater
  pub ends : EndsOfLater
  pub leaves : CalmTickLeavesAges
  pub moment : MomentIsNow

-- ---- what has not ended had not ended before

not_ended : (a b : ℕ) → a ≤ b → (end : Option ℕ) → has_ended b end ≡ false → has_ended a end ≡ false
not_ended a b le None is = refl
not_ended a b le (Some end) is = let above = leb-false end b is in by_test (nat_le end a) refl above
  where
    by_test : (c : Bool) → nat_le end a ≡ c → b < end → nat_le end a ≡ false
    by_test false same above = same
    by_test true same above = absurd (let under = leb-true end a same in omega (arith, le, under, above))

none_ended : (a b : ℕ) → a ≤ b → (list : List OwnPrefix) → has_ended_one b list ≡ false → has_ended_one a list ≡ false
none_ended a b le [] is = refl
none_ended a b le (p ∷ list) is =
    let parts = or_parts (has_ended b p.valid_until) (has_ended_one b list) is in
    both (has_ended a p.valid_until) (has_ended_one a list) (not_ended a b le p.valid_until parts.0) (none_ended a b le list parts.1)
  where
    both : (x y : Bool) → x ≡ false → y ≡ false → (x || y) ≡ false
    both false y one other = other
    both true y one other = absurd cc

abbrev LeadsAt : ℕ → HeldNode → Type 0
LeadsAt now node = node.stored.lost ≡ None → age_at now node.stored < 2 ^ 32 - 2 ^ 15

pub younger : (a b : ℕ) (s : State) → a ≤ b → AreAgesUndue b s → AreAgesUndue a s
younger a b s le is = record {
  young = let young = is.young in omega (arith, le, young);
  leads = all_of (LeadsAt a) s.table.entries (λ node there none.
      let less = All-contains (LeadsAt b) s.table.entries node is.leads there none in
      omega (arith, le, less));
}

smaller_age_now : (b : ℕ) (s n : State) → n.own ≡ s.own → LeavesAges s n → AreAgesUndue b s → AreAgesUndue b n
smaller_age_now b s n own left is = record {
  young = subst (λ (o : PlainData). b - o.born < 2 ^ 32 - 2 ^ 16) (sym own) is.young;
  leads = all_of (LeadsAt b) n.table.entries (λ node there. All-contains (LeadsAt b) s.table.entries node is.leads (left.entries node there));
}

-- ---- a router lasts

-- it is steady, and lasts on
pub record LastsOn (until now : ℕ) (s n : State) : Type 0 where
  pub steady : IsSteady now s n
  pub lasts : IsLastingUntil until n

module _ (laws : UntilLaws) (until now : ℕ) (s : State) (router : IsRouter s) (begun : s.moment ≤ now) (soon : now ≤ until) (rest : IsRouterAtRest s) (lasting : IsLastingUntil until s) where
  abbrev before : PlainView
  before = seen_by s

  abbrev at : PlainView
  at = seen_by (at_moment now s)

  later : IsLater before at
  later = laws.rests.view now s router begun

  none_ends : (m : ℕ) → IsLifetimeEnd before m → before.now < m → at.now < m
  none_ends m ends less = let further = lasting.ends m ends less in omega (arith, soon, further)

  abbrev used : List Delegated
  used = map (aged_delegated later.time) rest.usable

  -- it uses and wants the same at that moment
  used_now : UseSame s (at_moment now s)
  used_now = record {
    one = rest.usable;
    is_one = rest.are_usable;
    other = used;
    is_other = laws.usable before at later none_ends rest.usable rest.are_usable;
    same = record {
      prefixes = sym (laws.prefixes later.time rest.usable);
      wanted = laws.unwanted before at later none_ends rest.usable rest.are_usable;
    };
  }

  -- where it sees then what it saw
  ends_now : (n : State) → seen_by n ≡ at → n.moment ≡ now → (m : ℕ) → IsLifetimeEnd (seen_by n) m → n.moment < m → until < m
  ends_now n seen moment m ends less =
      let here : IsLifetimeEnd at m = subst (λ (view : PlainView). IsLifetimeEnd view m) seen ends in
      let after_now : now < m = omega (arith, moment, less) in
      lasting.ends m ((laws.ends before at later m after_now).1 here) (omega (arith, begun, after_now))

  lasts_on : (n : State) → seen_by n ≡ at → n.moment ≡ now → n.own ≡ s.own → LeavesAges s n → LastsOn until now s n
  lasts_on n seen moment own left = record {
    steady = record {
      lasting = none_ended now until soon s.delegated lasting.lasting;
      young = younger now until s soon lasting.young;
      used = record {
        one = used_now.one;
        is_one = used_now.is_one;
        other = used_now.other;
        is_other = subst (λ (view : PlainView). AreUsable view used_now.other) (sym seen) used_now.is_other;
        same = used_now.same;
      };
    };
    lasts = record {
      lasting = ap (has_ended_one until) left.delegated ∙ lasting.lasting;
      young = smaller_age_now until s n own left lasting.young;
      ends = ends_now n seen moment;
    };
  }

  -- over a status update that is let pass
  pub lasts_over_passing : (p : Passing) (n : State) → n ≡ after_passing p now s → LastsOn until now s n
  lasts_over_passing p n is =
      subst (LastsOn until now s) (sym is)
      (lasts_on (after_passing p now s) refl refl refl (record { delegated = refl; entries = λ node there. there }))

  -- ---- over a tick

  goes : GoOn before at
  goes e common = (laws.rests.common before at e common later).0

  goes_back : GoOn at before
  goes_back e common = (laws.rests.common before at e common later).1

  module _ (ran' : Ran) (is : IsRunAssigned (at_moment now s) ran') where
    same_used : AreSame rest.usable is.usable
    same_used = used_same laws.rests.unique s (at_moment now s) rest.usable is.usable used_now rest.are_usable is.are_usable

    asked_at : (wish : Wish) → Contains rest.wishes wish → Contains is.wishes wish
    asked_at wish there =
        let w = (rest.are_asked.exact wish).0 there in
        (is.are_asked.exact wish).1 (record { place = w.place; asked = same_wish s.private before at rest.usable is.usable same_used goes w.place wish w.asked; post = w.post })

    asked_before : (wish : Wish) → Contains is.wishes wish → Contains rest.wishes wish
    asked_before wish there =
        let w = (is.are_asked.exact wish).0 there in
        (rest.are_asked.exact wish).1
        (record { place = w.place; asked = same_wish s.private at before is.usable rest.usable (same_back rest.usable is.usable same_used) goes_back w.place wish w.asked; post = w.post })

    wished_at : All (λ c. IsWished is.wishes (assigned_pair c)) s.held.assigned
    wished_at = all_of (λ c. IsWished is.wishes (assigned_pair c)) s.held.assigned (λ c there.
        let (wish, wish_in, pair) = All-contains (λ (x : Assigned). IsWished rest.wishes (assigned_pair x)) s.held.assigned c rest.wished there in
        (wish, asked_at wish wish_in, pair))

    at_rest : AreAtRest rest.advertised s.id.0 is.wishes s.held.assigned
    at_rest wish there = rest.at_rest wish (asked_before wish there)

    changes_none : AreAssignmentsUnchanged s.held.assigned ran'.held.assigned
    changes_none =
        laws.rests.rest_changes at is.wishes s.held ran' rest.advertised router.well.pairs.assigned wished_at
        ((laws.rests.advertised_later before at s.held.assigned rest.advertised later).0 rest.are_advertised) at_rest is.is_subroutine

  module _ (n : State) (done : Done) (happened : Happened now Tick s n done) (heard : AreHeard now s) where
    quiet : IsKeptUndue now s
    quiet =
        let young = younger now until s soon lasting.young in
        record { heard = heard; lasting = none_ended now until soon s.delegated lasting.lasting; young = young.young; leads = young.leads }

    pub lasts_over_tick : LastsOn until now s n
    lasts_over_tick =
        let run' = ran now s n done happened in
        let kept_at_rest : IsKeptAtRest s run'.after.state = laws.rests.calm_tick now s run'.after router begun quiet changes_none run'.tick in
        let left : LeavesAges s run'.after.state = laws.leaves now s run'.after router begun quiet changes_none run'.tick in
        let moment : n.moment ≡ now = laws.moment now Tick s n done happened in
        let id : n.id ≡ s.id = ap (λ (x : State). x.id) run'.is ∙ kept_at_rest.id in
        let number : n.number ≡ s.number = ap (λ (x : State). x.number) run'.is ∙ kept_at_rest.number in
        let own : n.own ≡ s.own = ap (λ (x : State). x.own) run'.is ∙ kept_at_rest.own in
        let reach : n.reach ≡ s.reach = ap (λ (x : State). x.reach) run'.is ∙ kept_at_rest.reach in
        let table : n.table.entries ≡ run'.after.state.table.entries = ap (λ (x : State). x.table.entries) run'.is in
        let known : (v : NodeId) → Contains s.reach v → entry_of n v ≡ entry_of (at_moment now s) v = λ v there.
        entry_by n (at_moment now s) v id number own moment (ap (λ (list : List HeldNode). held list v.0) table ∙ kept_at_rest.known v there) in
        let nodes : view_of n ≡ view_of (at_moment now s) =
        ap (filter_map (entry_of n)) reach
        ∙ entries_by n (at_moment now s) s.reach (All-weaker (Contains s.reach) (λ v. entry_of n v ≡ entry_of (at_moment now s) v) known s.reach (All-contains_itself s.reach)) in
        let seen : seen_by n ≡ at = λ i. record { own = (id i).0; now = moment i; nodes = nodes i } in
        lasts_on n seen moment own (record {
          delegated = ap (λ (x : State). x.delegated) run'.is ∙ left.delegated;
          entries = λ node there. left.entries node (subst (λ (list : List HeldNode). Contains list node) table there);
        })
