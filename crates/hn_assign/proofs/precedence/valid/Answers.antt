use Rattle.hn_base.proofs.Names.{◌≡◌, take, Contains, ⊎_elim, sym, subst, IsAbove, Overlaps}
use Rattle.hn_assign.proofs.Names.{Advertised, IsAdvertisedOnLink, key_of}
use Rattle.hn_assign.proofs.Fronts.{front_cases}
use Rattle.hn_assign.proofs.precedence.valid.Goals as goal

pub loop-a-preserved : goal.loop-a-preserved
loop-a-preserved c a seen off_link overlaps above =
    ⊎_elim
    (λ (old : Contains (take c.loop-a.a-index c.args.advertised.now) a). c.loop-a.invariant a old off_link overlaps above)
    (λ (new : c.a-item.result ≡ a).
    let Holds : Advertised → Type 0 = λ x. ¬ (IsAdvertisedOnLink c.args.common.now x) × Overlaps x.prefix c.args.c.now.prefix × IsAbove x.key (key_of 2 c.args.own.0 c.args.c.now.endpoint.0) in
    let yes = c.overrides.ensures.1 (subst Holds (sym new) (off_link, overlaps, above)) in
    cc (c.if-overrides.false, yes))
    (front_cases c.args.advertised.now c.loop-a.a-index c.a-item.result a c.loop-a-test.true c.a-item.is seen)
