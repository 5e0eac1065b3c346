-- The first version and the first interval among items.
use Rattle.hn_base.proofs.Names.{◌≡◌, ◌↔◌, ℕ, Bool, true, false, List, [], ◌∷◌, Option, Some, None, IsSome, refl, sym, ap, ◌∙◌, cond, option_map, filter_map, cons_option}
use Rattle.hn_data.proofs.Names.{◌==◌, PlainItem, PlainCaps, AreItems, first_of, version_of}
use Rattle.std.specs.List.{find}
use Rattle.hn_data.specs.Said.{interval_at, HasVersion}
use Rattle.hn_data.specs.declared.said.Interval.{Interval}
use Rattle.hn_data.proofs.OneReading.{HasOneReading}

some_or_none : {C : Type 0} (plain : C → PlainCaps) (bytes : List ℕ) (items : List PlainItem) (kept : Option C) → AreItems bytes items → option_map plain kept ≡ version_of items
    → IsSome kept → HasVersion bytes
some_or_none plain bytes items None are is some = absurd (cc)
some_or_none plain bytes items (Some caps) are is some = (plain caps, (items, are, sym is))

is_there : {C : Type 0} (plain : C → PlainCaps) (kept : Option C) (caps : PlainCaps) → option_map plain kept ≡ Some caps → IsSome kept
is_there plain None caps e = absurd (cc)
is_there plain (Some c) caps e = refl

pub version_found : {C : Type 0} (plain : C → PlainCaps) (bytes : List ℕ) (items : List PlainItem) (kept : Option C)
    → HasOneReading bytes → AreItems bytes items → option_map plain kept ≡ version_of items → IsSome kept ↔ HasVersion bytes
version_found plain bytes items kept one are is = (
  some_or_none plain bytes items kept are is,
  λ (caps, (others, read, first)). is_there plain kept caps (is ∙ ap version_of (one items others are read) ∙ first),
)

this_or_rest : (passes : Bool) (x : Interval) (rest : List ℕ) (found : Option Interval) → first_of rest ≡ option_map (λ i. i.interval) found
    → first_of (cons_option (cond passes (Some x.interval) None) rest) ≡ option_map (λ i. i.interval) (cond passes (Some x) found)
this_or_rest true x rest found same = refl
this_or_rest false x rest found same = same

-- the first that passes a test, and the first that gives a value where it passes
pub find_is_first : (e : ℕ) (xs : List Interval) → first_of (filter_map (interval_at e) xs) ≡ option_map (λ i. i.interval) (find (λ i. i.endpoint.0 == e) xs)
find_is_first e [] = refl
find_is_first e (x ∷ xs) = this_or_rest (x.endpoint.0 == e) x (filter_map (interval_at e) xs) (find (λ i. i.endpoint.0 == e) xs) (find_is_first e xs)
