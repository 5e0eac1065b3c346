use Rattle.hn_base.proofs.Names.{◌∙◌, ℕ, List, [], ◌∷◌, ap, subst, on_ok_weaker}
use Rattle.hn_addr.proofs.Names.{OwnAddress, seen_by, adding, IsFirstAround, Choosing}
use Rattle.hn_addr.proofs.FirstFittingNumber.{first_fit}
use Rattle.hn_addr.proofs.choosing.Choosing.draw_one.Goals as goal

pub returns-clause-drawn : goal.returns-clause-drawn
returns-clause-drawn g c =
    let others = c.args.others.now in
    let this = c.args.c.now in
    let before = c.args.self.now in
    let word = c.take-word.result in
    let k = c.number_of-k.result in
    let around = subst (λ (list : List OwnAddress). IsFirstAround others list this.prefix word k) c.as_slice.ensures c.number_of-k.ensures in
    on_ok_weaker c.add_drawn.result (λ is. (
      word,
      k,
      first_fit (seen_by c.args.router.now) others c.requires.others this before.list word k around,
      is ∙ ap (λ (x : ℕ). adding this.endpoint x (word ∷ []) before) c.address_of.ensures,
    )) c.add_drawn.ensures

pub returns-clause-drew : goal.returns-clause-drew
returns-clause-drew g c =
    on_ok_weaker c.add_drawn.result (λ is. record {
      words = c.take-word.result ∷ [];
      added = ap (λ (p : Choosing). p.words) is;
      took = c.take-word.ensures;
    }) c.add_drawn.ensures
