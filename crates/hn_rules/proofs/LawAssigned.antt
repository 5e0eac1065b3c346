-- Assignments and backoffs stay what a router holds when prefixes are assigned.
use Rattle.hn_base.proofs.Names.{IsTotalOrder, All-contains, IsExact}
use Rattle.hn_rules.proofs.Names.{IsWished, assigned_pair, pair_cmp, AssignedAreWished, FewPosts, ArePorts, State, IsRunAssigned, seen_by}
use Rattle.hn_assign.specs.declared.ran.Ran.{Ran as Assigned}
use Rattle.hn_assign.specs.Laws.{SubroutineKeepsInside, SubroutineKeepsPast, SubroutineKeepsPriority, AssignedAscend, BackoffsAscend}
use Rattle.hn_rules.proofs.LawPairs.{wished_few}
use Rattle.hn_rules.proofs.PartsOfRouters.{AreHeldWell}

-- the laws of the subroutine, and of the order of pairs, on which it rests
pub record AssignLaws : Type 0 where
  pub inside : SubroutineKeepsInside
  pub past : SubroutineKeepsPast
  pub priority : SubroutineKeepsPriority
  pub assigned : AssignedAscend
  pub backoffs : BackoffsAscend
  pub wished : AssignedAreWished
  pub pairs_total : IsTotalOrder pair_cmp
  pub pairs_exact : IsExact pair_cmp
  pub posts : FewPosts

module _ (laws : AssignLaws) where
  pub held-assigned : (s : State) (ran : Assigned) → IsRunAssigned s ran → ArePorts s.ports → AreHeldWell s.moment s.held → AreHeldWell s.moment ran.held
  held-assigned s ran is ports well =
      let view = seen_by s in
      let wishes = is.wishes in
      let sub = is.is_subroutine in
      let ascending = laws.assigned view wishes s.held ran sub in
      let wished = laws.wished view wishes s.held ran sub in
      record {
        are = record {
          assigned = ascending;
          backoffs = laws.backoffs view wishes s.held ran sub;
          few = wished_few s is.usable wishes is.are_asked assigned_pair laws.pairs_total laws.pairs_exact ran.held.assigned is.are_usable.few (laws.posts s.private s.ports ports) ascending
              (λ c there. All-contains (λ c. IsWished wishes (assigned_pair c)) ran.held.assigned c wished there);
          inside = laws.inside view wishes s.held ran sub well.are.inside;
          priority = laws.priority view wishes s.held ran sub well.are.priority;
        };
        past = laws.past view wishes s.held ran sub well.past;
      }
