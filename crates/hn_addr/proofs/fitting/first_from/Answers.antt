use Rattle.hn_base.proofs.Names.{ℕ, ◌≤◌, refl, sym, subst, arith, false≢true}
use Rattle.hn_addr.specs.Numbers.{IsFreeAddress}
use Rattle.hn_addr.proofs.FirstFittingNumber.{none_at_first, one_further, first_found, none_found}
use Rattle.hn_addr.proofs.fitting.first_from.Goals as goal

pub loop-k-init : goal.loop-k-init
loop-k-init c = none_at_first c.args.others.now c.args.list.now c.args.prefix.now c.args.from

pub address_of-requires : goal.address_of-requires
address_of-requires c = ((c.count-k-end.ensures c.loop-k.k).0 c.loop-k-test.true).1

pub returns-then-is_free : goal.returns-then-is_free
returns-then-is_free c =
    let k = c.loop-k.k in
    let bounds = (c.count-k-end.ensures k).0 c.loop-k-test.true in
    let from = c.loop-k.auto.k in
    let least = c.requires.low in
    let low : 1 ≤ k = omega (arith, from, least) in
    first_found c.args.others.now c.args.list.now c.args.prefix.now c.args.from k c.loop-k.invariant from
    (record {
      low = low;
      high = bounds.0;
      inside = bounds.1;
      free = subst (λ (x : ℕ). IsFreeAddress c.args.others.now c.args.list.now x) c.address_of.ensures (c.if-is_free.ensures.0 refl);
    })

pub loop-k-preserved : goal.loop-k-preserved
loop-k-preserved c =
    one_further c.args.others.now c.args.list.now c.args.prefix.now c.args.from c.loop-k.k c.loop-k.invariant
    (λ fits. false≢true (c.if-is_free.ensures.1 (subst (λ (x : ℕ). IsFreeAddress c.args.others.now c.args.list.now x) (sym c.address_of.ensures) fits.free)))

pub returns : goal.returns
returns c = none_found c.args.others.now c.args.list.now c.args.prefix.now c.args.from c.loop-k.k c.count-k-end.result c.loop-k.invariant c.loop-k-test.false c.count-k-end.ensures
