use Rattle.std.proofs.Common.{◌≡◌, ◌∙◌, ◌<◌, ◌≤◌, ℕ, length, get_or, subst, ⊎_elim, arith}
use Rattle.std.proofs.lemmas.Bool.{cases_lt}
use Rattle.std.proofs.lemmas.List.{get_or_default}
use Rattle.hn_data.specs.declared.view.Entry.{Entry}
use Rattle.hn_assign.specs.Alike.{AdvertisesAs}
use Rattle.hn_assign.proofs.kept_index.advertise_alike.Goals as goal

pub loop-place-preserved : goal.loop-place-preserved
loop-place-preserved c k d below =
    let before = c.args.before.now in
    let after = c.args.after.now in
    let place = c.loop-place.place in
    let within : place < length before = c.loop-place-test.true in
    let within_after : place < length after = subst (λ (n : ℕ). place < n) c.if-before-after.false within in
    let a : c.index-before-place.result ≡ get_or before place d = c.index-before-place.is ∙ get_or_default before place c.index-before-place.result d within in
    let b : c.index-after-place.result ≡ get_or after place d = c.index-after-place.is ∙ get_or_default after place c.index-after-place.result d within_after in
    let one : AdvertisesAs c.index-before-place.result c.index-after-place.result = c.advertise_same.ensures c.if-not-advertise_same.false in
    let here : AdvertisesAs (get_or before place d) (get_or after place d) =
    subst (λ (x : Entry). AdvertisesAs x (get_or after place d)) a (subst (λ (y : Entry). AdvertisesAs c.index-before-place.result y) b one) in
    ⊎_elim (λ (old : k < place). c.loop-place.invariant k d old)
    (λ (rest : place ≤ k). let is : place ≡ k = omega (arith, below, rest) in subst (λ (j : ℕ). AdvertisesAs (get_or before j d) (get_or after j d)) is here)
    (cases_lt k place)
