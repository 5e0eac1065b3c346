use Rattle.hn_base.proofs.Names.{◌≡◌, length, Some, ap, sym, ◌∙◌, eqb-true}
use Rattle.hn_prefix.proofs.ReadLemmas.{empty_groups}
use Rattle.hn_prefix.proofs.parse.some_groups.Goals as goal

pub returns-then-is_empty-clause-every : goal.returns-then-is_empty-clause-every
returns-then-is_empty-clause-every c =
    λ gs h _.
    let none : length c.args.text.now ≡ 0 = eqb-true _ _ (sym c.is_empty.ensures ∙ c.if-is_empty.true) in
    ap Some (c.new.ensures ∙ sym (empty_groups c.args.text.now gs none h))
