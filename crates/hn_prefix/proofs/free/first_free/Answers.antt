use Rattle.hn_base.proofs.Names.{◌≡◌, ℕ, ◌+◌, ◌%◌, ◌<◌, ap, subst, sym, ◌∙◌, arith, mod_below, PlainPrefix, IsWithin, last_address}
use Rattle.hn_prefix.proofs.Names.{sub_prefix, sub_prefix_count, next_place, IsTakenPrefix}
use Rattle.hn_prefix.proofs.JumpsLeft.{few_jumps, jump_counts}
use Rattle.hn_prefix.proofs.SubPrefixAtPlace.{block_at, blocked, sub_prefix_is_within, reaches, later_place}
use Rattle.hn_prefix.proofs.PlaceAfterStart.{place_now, place_at, not_both, jumped, whole_round}
use Rattle.hn_prefix.proofs.free.first_free.Goals as goal

pub loop-ahead-init : goal.loop-ahead-init
loop-ahead-init c = record {
  each_taken_before = record { taken_at = λ j none. absurd (omega arith) };
  from_in_taken = omega arith;
  few_jumps_left = few_jumps c.args.outer.now c.args.taken.now c.args.len _;
}

pub returns-in_default-clause-first : goal.returns-in_default-clause-first
returns-in_default-clause-first c =
    let place = place_now c.args.start c.loop-ahead.ahead c.sub_prefix_count-count.result (sub_prefix_count c.args.outer.now c.args.len) c.sub_prefix_count-count.ensures.value in
    record {
      ahead = c.loop-ahead.ahead;
      below_count = omega arith;
      at_place = c.sub_prefix-candidate.ensures ∙ ap (λ n. sub_prefix c.args.outer.now c.args.len n) place;
      free = c.in_default.ensures.none;
      each_before_taken = c.loop-ahead.invariant.each_taken_before.taken_at;
    }

pub returns-in_default-clause-inside : goal.returns-in_default-clause-inside
returns-in_default-clause-inside c =
    let at =
    place_at c.args.outer.now c.args.len c.args.start c.loop-ahead.ahead c.sub_prefix_count-count.result c.sub_prefix_count-count.ensures.valid
    c.requires.not_shorter c.requires.len_in_range c.sub_prefix_count-count.ensures.value c.loop-ahead-test.true in
    let P : PlainPrefix → Type 0 = λ p. IsWithin p c.args.outer.now in
    subst P (sym c.sub_prefix-candidate.ensures) (sub_prefix_is_within c.args.outer.now c.args.len _ at)

pub returns-in_default-clause-none : goal.returns-in_default-clause-none
returns-in_default-clause-none c =
    let at =
    place_at c.args.outer.now c.args.len c.args.start c.loop-ahead.ahead c.sub_prefix_count-count.result c.sub_prefix_count-count.ensures.valid
    c.requires.not_shorter c.requires.len_in_range c.sub_prefix_count-count.ensures.value c.loop-ahead-test.true in
    let P : PlainPrefix → Type 0 = λ p. IsTakenPrefix c.args.taken.now p in (
      (λ never. absurd (cc)),
      (λ full. absurd (not_both c.args.taken.now c.sub_prefix-candidate.result c.in_default.ensures.none (subst P (sym c.sub_prefix-candidate.ensures) (full _ at.below_count)))),
    )

pub next_place-requires-clause-not_below : goal.next_place-requires-clause-not_below
next_place-requires-clause-not_below c =
    let at =
    place_at c.args.outer.now c.args.len c.args.start c.loop-ahead.ahead c.sub_prefix_count-count.result c.sub_prefix_count-count.ensures.valid
    c.requires.not_shorter c.requires.len_in_range c.sub_prefix_count-count.ensures.value c.loop-ahead-test.true in
    let blocks = blocked c.args.outer.now c.index-taken-at.result c.sub_prefix-candidate.result c.args.len _ at c.last_address.ensures.valid c.sub_prefix-candidate.ensures
    (block_at _ _ _ _ c.in-Some.ensures.found c.index-taken-at.is).0 in
    omega (arith, reaches c.args.outer.now c.index-taken-at.result c.args.len _ blocks)

pub overflow_sub-ahead : goal.overflow_sub-ahead
overflow_sub-ahead c =
    let at =
    place_at c.args.outer.now c.args.len c.args.start c.loop-ahead.ahead c.sub_prefix_count-count.result c.sub_prefix_count-count.ensures.valid
    c.requires.not_shorter c.requires.len_in_range c.sub_prefix_count-count.ensures.value c.loop-ahead-test.true in
    let found = block_at _ _ _ _ c.in-Some.ensures.found c.index-taken-at.is in
    let blocks = blocked c.args.outer.now c.index-taken-at.result c.sub_prefix-candidate.result c.args.len _ at c.last_address.ensures.valid c.sub_prefix-candidate.ensures found.0 in
    let following : c.next_place.result ≡ next_place c.args.outer.now c.args.len (last_address c.index-taken-at.result) =
    c.next_place.ensures ∙ ap (λ a. next_place c.args.outer.now c.args.len a) c.last_address.ensures.value in
    omega (arith, later_place c.args.outer.now c.index-taken-at.result c.args.len _ blocks)

pub loop-ahead-preserved : goal.loop-ahead-preserved
loop-ahead-preserved c =
    let at =
    place_at c.args.outer.now c.args.len c.args.start c.loop-ahead.ahead c.sub_prefix_count-count.result c.sub_prefix_count-count.ensures.valid
    c.requires.not_shorter c.requires.len_in_range c.sub_prefix_count-count.ensures.value c.loop-ahead-test.true in
    let blocks = blocked c.args.outer.now c.index-taken-at.result c.sub_prefix-candidate.result c.args.len _ at c.last_address.ensures.valid c.sub_prefix-candidate.ensures
    (block_at _ _ _ _ c.in-Some.ensures.found c.index-taken-at.is).0 in
    let following : c.next_place.result ≡ next_place c.args.outer.now c.args.len (last_address c.index-taken-at.result) =
    c.next_place.ensures ∙ ap (λ a. next_place c.args.outer.now c.args.len a) c.last_address.ensures.value in
    let place = place_now c.args.start c.loop-ahead.ahead c.sub_prefix_count-count.result (sub_prefix_count c.args.outer.now c.args.len) c.sub_prefix_count-count.ensures.value in
    record {
      each_taken_before = jumped c.args.taken.now c.args.outer.now c.index-taken-at.result c.args.len c.args.start c.loop-ahead.ahead _ c.next_place.result
          (block_at _ _ _ _ c.in-Some.ensures.found c.index-taken-at.is).1 blocks following place c.loop-ahead.invariant.each_taken_before;
      from_in_taken = omega (arith, c.in-Some.ensures.found.within);
      few_jumps_left = few_jumps c.args.outer.now c.args.taken.now c.args.len _;
    }

pub loop-ahead-smaller : goal.loop-ahead-smaller
loop-ahead-smaller c =
    let at =
    place_at c.args.outer.now c.args.len c.args.start c.loop-ahead.ahead c.sub_prefix_count-count.result c.sub_prefix_count-count.ensures.valid
    c.requires.not_shorter c.requires.len_in_range c.sub_prefix_count-count.ensures.value c.loop-ahead-test.true in
    let blocks = blocked c.args.outer.now c.index-taken-at.result c.sub_prefix-candidate.result c.args.len _ at c.last_address.ensures.valid c.sub_prefix-candidate.ensures
    (block_at _ _ _ _ c.in-Some.ensures.found c.index-taken-at.is).0 in
    let following : c.next_place.result ≡ next_place c.args.outer.now c.args.len (last_address c.index-taken-at.result) =
    c.next_place.ensures ∙ ap (λ a. next_place c.args.outer.now c.args.len a) c.last_address.ensures.value in
    let later = later_place c.args.outer.now c.index-taken-at.result c.args.len _ blocks in
    let from_start : c.args.start % c.sub_prefix_count-count.result < c.sub_prefix_count-count.result = mod_below _ _ (omega arith) in
    let so_far : ℕ = c.args.start % c.sub_prefix_count-count.result + c.loop-ahead.ahead in
    jump_counts c.args.taken.now c.args.outer.now c.index-taken-at.result c.args.len so_far _ (so_far % c.sub_prefix_count-count.result) c.next_place.result
    (block_at _ _ _ _ c.in-Some.ensures.found c.index-taken-at.is).1 following (omega arith) (ap (λ n. so_far % n) c.sub_prefix_count-count.ensures.value) (omega arith) (omega arith)

pub returns-clause-none : goal.returns-clause-none
returns-clause-none c = (
  (λ _. whole_round c.args.taken.now c.args.outer.now c.args.len c.args.start c.loop-ahead.ahead (omega arith) c.loop-ahead.invariant.each_taken_before),
  (λ _. cc),
)
