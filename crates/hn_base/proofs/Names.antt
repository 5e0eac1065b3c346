-- The names of std and of this crate that most proofs cite, handed on from one place. Declares nothing.
pub use Rattle.hex.specs.Hex.{encode_lower}
pub use Rattle.hn_base.specs.Addr.{IsLinkLocal}
pub use Rattle.hn_base.specs.Ascending.{HasAt, HaveSame, IsExact}
pub use Rattle.hn_base.specs.Byte.{IsByte}
pub use Rattle.hn_base.specs.Caps.{PlainCaps, plain_caps}
pub use Rattle.hn_base.specs.Causes.{LineElse, NoCause, OnCause}
pub use Rattle.hn_base.specs.Exists.{Some! }
pub use Rattle.hn_base.specs.HexText.{IsIdText, hex_text, id_text}
pub use Rattle.hn_base.specs.Input.{IsWhole}
pub use Rattle.hn_base.specs.Key.{IsAbove, key_cmp}
pub use Rattle.hn_base.specs.Name.{name_text}
pub use Rattle.hn_base.specs.NameText.{IsNameText, IsPadded, first_bytes, is_name_byte}
pub use Rattle.hn_base.specs.NodeIds.{node_cmp}
pub use Rattle.hn_base.specs.Numeral.{IsShortNumeral, numeral}
pub use Rattle.hn_base.specs.Order.{IsOlder}
pub use Rattle.hn_base.specs.Prefix.{IsInside, IsPrefix, IsWithin, Overlaps, PlainPrefix, last_address, prefix_cmp, prefix_containing}
pub use Rattle.hn_base.specs.Rules.{Each, IsSoleBy, IsTotalBy, KeepsBy, KeepsFact, OnSome, RuleOf, Then}
pub use Rattle.hn_base.specs.Sooner.{IsOfElement, IsSooner}
pub use Rattle.hn_base.specs.Splits.{Lacks, SplitsAt}
pub use Rattle.hn_base.specs.Words.{Begins, Drew, IsAt, Took}
pub use Rattle.std.proofs.Common.{All, Any, Bool, Contains, Decides, Err, Global, IfSome, IsSome, IsTrue, List, MatchBool, MatchResult, None, Ok, Option, Ordering, Result, Some, Vec, [], add-one, ap}
pub use Rattle.std.proofs.Common.{append_assoc, arith, below_more, bit_and, codes, cond, drop, eqb, false, filter, find, get_or, inl, inr, is_ok, is_some, leb, length, length-append, lit<, lit≤, ltb}
pub use Rattle.std.proofs.Common.{map, max, min, nat_lt, not, option_to_list, position, refl, replicate, rules, set, slice_get, slice_index, slice_set, string_bytes, sub-one, subst, suc, sym, take}
pub use Rattle.std.proofs.Common.{take-append-drop, tests, true, zero, zero-add, ℕ, ⊎_elim, ◌%◌, ◌*◌, ◌++◌, ◌+◌, ◌-◌, ◌/◌, ◌<◌, ◌^◌, ◌↔◌, ◌∙◌, ◌∷◌, ◌≡◌, ◌≢◌, ◌≤◌, ◌⊎◌}
pub use Rattle.std.proofs.Math.Bool.{beq}
pub use Rattle.std.proofs.Math.Dec.{eqb-suc-zero}
pub use Rattle.std.proofs.Math.Nat.{div-add-mod, le_refl, lt-div-mul-add, mod-add-div', mod-eq_of_lt, pow-le-pow_right, pow-suc}
pub use Rattle.std.proofs.Math.Seq.{drop-append_seam, drop-cons, get_or-append_right, get_or-append_seam, map-set_same, take-append_seam}
pub use Rattle.std.proofs.Output.{has_written_append}
pub use Rattle.std.proofs.Props.{props}
pub use Rattle.std.proofs.lemmas.Bool.{and_from, and_parts, both_ways, cases_Bool, cases_eq, cases_lt, cases_order, cond-false, cond-true, cond_both, eq-eqb, eqb-false, eqb-true, false_from_ne_true}
pub use Rattle.std.proofs.lemmas.Bool.{false≢true, iff_false, le-leb, le-ltb, leb-false, leb-true, lt-leb, lt-ltb, ltb-false, ltb-true, ne_eqb, not-false, not-true, not_from_false, or_cases, or_left}
pub use Rattle.std.proofs.lemmas.Bool.{or_parts, or_right}
pub use Rattle.std.proofs.lemmas.Bool.Decides.{Decides-and, Decides-eqb, Decides-like, nat_tests, not_from_Decides}
pub use Rattle.std.proofs.lemmas.Cmp.{by_ranked, nat_cmp_total, nat_list_cmp_total, on_total, then_total, tied_itself}
pub use Rattle.std.proofs.lemmas.Fmt.{length-decimal-le}
pub use Rattle.std.proofs.lemmas.Fn.{filter_same}
pub use Rattle.std.proofs.lemmas.Grind.{common_steps, flat_map-append, same_number_lists}
pub use Rattle.std.proofs.lemmas.Iterator.{YieldsList-from_slice, YieldsList-from_zip}
pub use Rattle.std.proofs.lemmas.List.{append-nil, drop-drop, drop-set-lt, drop_all, drop_at, drop_more, flat_map_more, get_or-append-add, get_or-drop, get_or-map, get_or-replicate, get_or-set_other}
pub use Rattle.std.proofs.lemmas.List.{get_or-set_same, get_or-take, get_or_append_left, get_or_default, get_or_push, length-drop, length-map, length-replicate, length-set, length-take}
pub use Rattle.std.proofs.lemmas.List.{length-take-le, length_push, map-append, map_push, set_split, take-append-drop, take-map, take_all, take_at, take_more, take_more_set, take_rest}
pub use Rattle.std.proofs.lemmas.List.Edits.{length-insert, map_over_more}
pub use Rattle.std.proofs.lemmas.List.Elements.{All-append, All-cons, All-contains, All-contains_itself, All-filter, All-from_recursion, All-head, All-map, All-more, All-nil, All-push, All-replicate}
pub use Rattle.std.proofs.lemmas.List.Elements.{All-same, All-set, All-tail, All-take, All-weaker, Contains-append_cases, Contains-append_left, Contains-append_right, Contains-get_or, Contains-push}
pub use Rattle.std.proofs.lemmas.List.Elements.{Contains-push_cases, filter-append, filter_map-append, filter_more, filter_passes, recursion_from_All}
pub use Rattle.std.proofs.lemmas.List.Filters.{dedup_is}
pub use Rattle.std.proofs.lemmas.List.Folds.{concat-append, find_at, list_any_at}
pub use Rattle.std.proofs.lemmas.List.Kept.{IsStrictlySortedBy-dedup, IsStrictlySortedBy-filter}
pub use Rattle.std.proofs.lemmas.List.Quantifiers.{all_pairs_push, position-Some}
pub use Rattle.std.proofs.lemmas.List.Sorted.{Contains-permutation, IsPartitionPoint-from_clause, IsPartitionedBy-ltb, IsPermutation-sym, answers_always, searchable_from_sorted}
pub use Rattle.std.proofs.lemmas.List.Sums.{AllPass-from_list_all, count_by-le-length, fails_before_first, length-filter, position_or_len_is, sum_by-append, sum_by-cons, sum_by-set}
pub use Rattle.std.proofs.lemmas.Map.Keys.{IsDistinct-from_sorted, Less-from_sorted, below_from_sorted, sorted_head, sorted_tail}
pub use Rattle.std.proofs.lemmas.Nat.{div_below, from_be_bytes-to_be_bytes_2, from_be_bytes-to_be_bytes_4, mod-pow-add, mod_below, mul-le, pow-add, pow_below, pow_pos}
pub use Rattle.std.proofs.lemmas.Option.{IfSome_then, get_or_from_slice_get, none-some, same_Some, slice_get-get_or, slice_get-map, slice_get_cases, slice_get_past, slice_get_read, slice_get_within}
pub use Rattle.std.proofs.lemmas.Result.{IfOk-weaker, err_from_is_err_and, on_ok_weaker}
pub use Rattle.std.proofs.lemmas.Slice.Eq.{bytes_eq-Decides, slice_eq-Decides}
pub use Rattle.std.proofs.lemmas.Slice.Zip.{AllZip-long}
pub use Rattle.std.proofs.lemmas.Str.{IsUtf8-from_ascii}
pub use Rattle.std.proofs.raw_atomic.Walks.{leaves, proved, proved_at}
pub use Rattle.std.specs.BTreeMap.{IsOrdered}
pub use Rattle.std.specs.Borrow.{Bor}
pub use Rattle.std.specs.Char.{digit_char, digit_value}
pub use Rattle.std.specs.Cmp.{IsEquivalence, IsTotalOrder, nat_cmp_is, ranked}
pub use Rattle.std.specs.Cmp.Lexicographic.{bytes_decides, pointwise, slice_cmp}
pub use Rattle.std.specs.Cmp.Rules.{comparing}
pub use Rattle.std.specs.Fmt.{HasWritten, IsPlainFormatter, decimal, digit_glyph, digits, digits_onto}
pub use Rattle.std.specs.Int.{byte_at, from_be_bytes, to_be_bytes, w128, w16, w32}
pub use Rattle.std.specs.Io.KnownBytes.{Appends, Consumes}
pub use Rattle.std.specs.List.{AllAdjacentBelow, AllByRecursion, AllPairs, AllWithin, AllZip, HoldsAt, IsAllAdjacentAnswer, IsDistinct, concat, cons_option, count_by, filter_map, flat_map}
pub use Rattle.std.specs.List.{join_with_byte, list_all, list_any, position_or_len, sum_by}
pub use Rattle.std.specs.List.Sorted.{IsBinarySearchResult, IsNonDecreasingBy, IsPartitionPoint, IsPartitionedBy, IsSearchInRange, IsStrictlySortedBy}
pub use Rattle.std.specs.Map.Iter.{deref_pair}
pub use Rattle.std.specs.Net.Text.{hex, hex_groups_text}
pub use Rattle.std.specs.Option.{option_and_then, option_eq, option_map, option_map_or, option_or}
pub use Rattle.std.specs.Ordering.{eq_by_cmp, is_eq, is_gt, is_lt, nat_cmp, on, ord_max, ordering_index, ordering_reverse, ordering_then, then_cmp}
pub use Rattle.std.specs.Prelude.{All, IfErr, IfNone, IfOk, IsErr, IsErrAnd, MatchOption, OnErr, OnOk, find, if◌then◌else◌, insert, is_none, nat_eq, nat_le, nat_lt, remove, unwrap_or, ⊤, ◌&&◌, ◌==◌}
pub use Rattle.std.specs.Prelude.{◌||◌}
pub use Rattle.std.specs.Str.{IsAscii, IsUtf8, bytes_eq}
pub use Rattle.std.specs.Str.Parse.{AllDigits, digits_value, digits_value_after}
pub use Rattle.std.specs.declared.cmp.Ordering.{Ordering}
pub use Rattle.std.specs.declared.cmp.Ordering.TheVariants.{Equal, Greater, Less}
pub use denote.Param.{layouts, param}
pub use denote.RattleType.{RattleType, owns}
pub use denote.Signature.{types_at}
pub use denote.Triple.Entry.{alive}
pub use denote.Triple.Walked.{ends_at, says}
pub use mathlib.Core.List.{[], ◌∷◌}
pub use mathlib.Core.Path.{refl}
pub use mir.MapTy.{inst_fn}
pub use mir.Syntax.{a_type}
pub use types.ByLocal.{alloc_all, free_all, get, look_at, pass_all, sets}
pub use types.Kit.{ !, done, keep, move, qed, raw, split, suffices, ‵, ◌$◌, ◌∵◌, ◌⊛◌}
pub use types.Part.{agg}
pub use types.Run.{and_then, enter, no_more, returns}
