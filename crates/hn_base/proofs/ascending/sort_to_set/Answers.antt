use Rattle.hn_base.proofs.Names.{dedup_is, IsStrictlySortedBy-dedup, Contains-permutation, IsPermutation-sym}
use Rattle.hn_base.proofs.AscendingLists.{dedup_same}
use Rattle.hn_base.proofs.ascending.sort_to_set.Goals as goal

pub returns-clause-ascending : goal.returns-clause-ascending
returns-clause-ascending g c = rw (dedup_is _ _ _ c.dedup.ensures.filtered) (IsStrictlySortedBy-dedup g.met.T.Ord.total g.met.T.Ord.matches_eq _ c.sort_unstable.ensures.sorted)

pub returns-clause-same : goal.returns-clause-same
returns-clause-same g c x =
    let is = dedup_is _ _ _ c.dedup.ensures.filtered in
    let moved = c.sort_unstable.ensures.permutation in
    let kept = dedup_same g.T.Ord.cmp g.T.PartialEq.eq c.requires.exact g.met.T.Ord.matches_eq g.met.T.Eq.laws c.sort_unstable.new.self.items x in (
      λ h. Contains-permutation _ _ x (IsPermutation-sym _ _ moved) (kept.0 (rw is at h)),
      λ h. rw is (kept.1 (Contains-permutation _ _ x moved h)),
    )
