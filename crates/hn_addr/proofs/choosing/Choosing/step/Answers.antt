use Rattle.hn_base.proofs.Names.{◌∙◌, ℕ, List, refl, ap, subst, inr, append-nil, on_ok_weaker}
use Rattle.hn_addr.proofs.Names.{OwnAddress, seen_by, Stays, HasNoneFrom, Choosing}
use Rattle.hn_addr.proofs.OneChoosing.{draws_none}
use Rattle.hn_addr.proofs.FirstFittingNumber.{none_fits}
use Rattle.hn_addr.proofs.choosing.Choosing.step.Goals as goal

pub returns-in-Some-clause-drew : goal.returns-in-Some-clause-drew
returns-in-Some-clause-drew g c =
    let before = c.args.self.now in
    on_ok_weaker c.add.result
    (λ is. draws_none (g.D.Draw.words c.args.draw.now) before.words c.add.new.self.words (ap (λ (p : Choosing). p.words) is ∙ append-nil before.words))
    c.add.ensures

pub returns-in-None-clause-chosen : goal.returns-in-None-clause-chosen
returns-in-None-clause-chosen g c =
    let view = seen_by c.args.router.now in
    let own = c.args.router.now.addresses in
    let others = c.args.others.now in
    let this = c.args.c.now in
    let list = c.args.self.now.list in
    let nobody : (x : ℕ) → ¬ Stays view own this list x = subst (λ (l : List OwnAddress). (x : ℕ) → ¬ Stays view own this l x) c.as_slice.ensures c.in_default.ensures in
    let none : HasNoneFrom others list this.prefix 1 = subst (λ (l : List OwnAddress). HasNoneFrom others l this.prefix 1) c.as_slice-2.ensures c.in-None.ensures in
    inr (nobody, inr (none_fits view others c.requires this list none, refl))
