use Rattle.hn_base.proofs.Names.{◌≡◌, ◌∙◌, ℕ, List, map, arith, slice_cmp, nat_cmp, take_all, dedup_is, IsStrictlySortedBy-dedup, Contains-permutation, IsPermutation-sym}
use Rattle.hn_data.proofs.Names.{exact_nat}
use Rattle.std.proofs.Common.{Bor}
use Rattle.std.specs.Cmp.Lexicographic.{on_texts, on_texts_equal, texts_ties}
use Rattle.std.proofs.lemmas.List.Sorted.{IsPermutation-map}
use Rattle.hn_base.proofs.AscendingLists.{sorted_parts, dedup_parts_same, exact_lists}
use Rattle.hn_data.proofs.own_data.in_order.Goals as goal

now : Bor (List ℕ) → List ℕ
now p = p.now

pub returns-clause-ascending : goal.returns-clause-ascending
unfolding now
returns-clause-ascending c =
    (sorted_parts now (slice_cmp nat_cmp) c.dedup.new.self.items).0 (rw (dedup_is _ _ _ c.dedup.ensures.filtered)
    (IsStrictlySortedBy-dedup (on_texts now) (λ x y. texts_ties x.now y.now) c.sort_unstable.new.self.items c.sort_unstable.ensures.sorted))

pub returns-clause-same : goal.returns-clause-same
unfolding now
returns-clause-same c piece =
    let sorted = c.sort_unstable.new.self.items in
    let all : map now c.loop-piece.sorted.items ≡ c.args.pieces.now = c.loop-piece.invariant ∙ take_all c.loop-piece.piece-index c.args.pieces.now (omega arith) in
    let moved = IsPermutation-map now _ sorted c.sort_unstable.ensures.permutation in
    let kept = dedup_parts_same now (slice_cmp nat_cmp) _ (exact_lists nat_cmp exact_nat) (λ x y. texts_ties x.now y.now) (on_texts_equal now) sorted piece in
    rw (dedup_is _ _ _ c.dedup.ensures.filtered, ← all) (
      λ h. Contains-permutation _ _ piece (IsPermutation-sym _ _ moved) (kept.0 h),
      λ h. kept.1 (Contains-permutation _ _ piece moved h),
    )
