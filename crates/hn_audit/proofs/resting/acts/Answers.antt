use Rattle.hn_base.proofs.Names.{List, sym, subst, HaveSame}
use Rattle.hn_audit.proofs.Names.{Advertised, Wish, AreUsable, seen_by, FindsAct}
use Rattle.hn_audit.proofs.RestIsOne.{advertised_same}
use Rattle.hn_audit.proofs.resting.acts.Goals as goal

pub returns : goal.returns
returns c =
    let s = c.args.s.now in
    let adv : List Advertised = c.in_ok-known.known in
    let wishes : List Wish = c.in_ok-wishes.wishes in
    let same : HaveSame adv c.in_ok-advertised.advertised = subst (HaveSame adv) c.as_slice-2.ensures c.in_ok-known.ensures in
    record {
      outlook = record {
        usable = c.as_slice.result.now;
        are_usable = subst (AreUsable (seen_by s.router)) (sym c.as_slice.ensures) c.in_ok-usable.ensures;
        wishes = wishes;
        are_asked = c.in_ok-wishes.ensures;
        advertised = adv;
        are_advertised = advertised_same (seen_by s.router) s.router.held.assigned adv c.in_ok-advertised.advertised same c.in_ok-advertised.ensures;
      };
      found = subst (λ (ws : List Wish). FindsAct s.name adv s.router.id.0 s.router.held.assigned ws c.first_act.result) c.as_slice-3.ensures.value c.first_act.ensures;
    }
