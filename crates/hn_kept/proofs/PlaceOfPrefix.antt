-- The word of the place of a preferred prefix gives that prefix where it is free.
use Rattle.hn_base.proofs.Names.{◌≡◌, ℕ, ◌+◌, ◌-◌, ◌*◌, ◌/◌, ◌%◌, ◌^◌, ◌<◌, ◌≤◌, List, map, Some, refl, sym, ap, ◌∙◌, subst, arith, mod-eq_of_lt, pow-le-pow_right, pow_pos, All-map}
use Rattle.std.proofs.Math.Nat.{mul-div_cancel}
use Rattle.hn_base.proofs.FrontOfList.{head_is}
use Rattle.hn_base.proofs.Elements.{all_of}
use Rattle.hn_base.proofs.Names.{PlainPrefix, Overlaps}
use Rattle.hn_prefix.specs.Free.{sub_prefix, sub_prefix_count, IsFree, IsSubPrefix, IsFirstFree}
use Rattle.hn_prefix.specs.Laws.{PlaceIsFirst, InsideAreSubPrefixes}
use Rattle.hn_assign.specs.declared.advertised.Advertised.{Advertised}
use Rattle.hn_assign.specs.declared.slot.Slot.{Slot}
use Rattle.hn_assign.specs.Scene.{PlainScene, IsFreeFor, new_assigned}
use Rattle.hn_kept.specs.declared.preferred.Preferred.{Preferred}
use Rattle.hn_kept.specs.Preferred.{word_of}
use Rattle.hn_kept.specs.Laws.{PlaceIsPublished}

-- the place of a sub-prefix, from where its addresses begin
place_is : (start place size : ℕ) → 0 < size → (start + place * size - start) / size ≡ place
place_is start place size positive =
    let ahead : start + place * size - start ≡ place * size = omega arith in
    ap (λ (n : ℕ). n / size) ahead ∙ mul-div_cancel place positive

-- the word of a preferred prefix is its place
word_is : (f : Preferred) (place : ℕ) → place < sub_prefix_count f.delegated f.prefix.len → f.prefix ≡ sub_prefix f.delegated f.prefix.len place
    → 32 ≤ f.delegated.len → f.prefix.len ≤ 64 → word_of f ≡ place
word_is f place below is long short =
    let size : ℕ = 2 ^ (128 - f.prefix.len) in
    let bits : f.prefix.bits ≡ f.delegated.bits + place * size = ap (λ (p : PlainPrefix). p.bits) is in
    let ahead : (f.prefix.bits - f.delegated.bits) / size ≡ place =
    ap (λ (b : ℕ). (b - f.delegated.bits) / size) bits ∙ place_is f.delegated.bits place size (pow_pos (128 - f.prefix.len)) in
    let few : 2 ^ (f.prefix.len - f.delegated.len) ≤ 2 ^ 32 = pow-le-pow_right (omega arith) {i = f.prefix.len - f.delegated.len} {j = 32} (omega (arith, long, short)) in
    ap (λ (n : ℕ). n % 2 ^ 32) ahead ∙ mod-eq_of_lt (omega (arith, below, few))

free_in : (at : PlainScene) (p : PlainPrefix) → IsFreeFor at p → IsFree (map (λ (a : Advertised). a.prefix) at.advertised) p
free_in at p free = All-map (λ (t : PlainPrefix). ¬ (Overlaps t p)) (λ (a : Advertised). a.prefix) at.advertised (all_of (λ (a : Advertised). ¬ (Overlaps a.prefix p)) at.advertised free.free)

pub place_is_published : PlaceIsFirst → InsideAreSubPrefixes → PlaceIsPublished
place_is_published first inside at f before after of free made =
    let len = f.prefix.len in
    let sub : IsSubPrefix f.delegated len f.prefix =
    (inside f.delegated len of.outer of.not_shorter (omega (arith, of.short)) f.prefix).0 (record { prefix = of.prefix; of_len = refl; within = of.inside }) in
    let place = sub.0 in
    let word : made.word ≡ place = sym (head_is made.took) ∙ word_is f place sub.1 sub.2 of.long of.short in
    let taken : List PlainPrefix = map (λ (a : Advertised). a.prefix) at.advertised in
    let found : IsFirstFree f.delegated place taken len made.prefix =
    subst (λ (n : ℕ). IsFirstFree f.delegated n taken len made.prefix) word
    (subst (λ (n : ℕ). IsFirstFree f.delegated made.word taken n made.prefix) of.length
    (subst (λ (d : PlainPrefix). IsFirstFree d made.word taken at.wish.length made.prefix) of.delegated made.first)) in
    let is_free : IsFree taken (sub_prefix f.delegated len place) = subst (IsFree taken) sub.2 (free_in at f.prefix free) in
    let same : made.prefix ≡ f.prefix = first f.delegated place taken len made.prefix sub.1 is_free found ∙ sym sub.2 in
    ap (λ (s : Slot). s.assigned) made.gives ∙ ap (λ (p : PlainPrefix). Some (new_assigned at p (Some 2))) same
